-- Demand 3 at work: two requests that differ where nothing is read, and get one answer; two that differ where something is, and do not.
use mathlib.Core.Path.{◌≡◌, refl}
use Prim.Native.String.{String}
use mathlib.Core.List.{[], ◌∷◌}
use Rattle.octets.specs.Lists.{text}
use Rattle.pattern.specs.Matching.{name_matches}
use Rattle.profile.specs.Inner.Decoded.{profile_in}
use Rattle.profile.specs.Judging.{judge}
use Rattle.profile.specs.Written.{written}
use Rattle.request.specs.Request.{Field, read_request}
use Rattle.request.specs.Inner.Places.{request_of}
use Rattle.session.specs.Session.{fresh}
use Rattle.route.specs.Advance.{advance}
use Rattle.promises.specs.Common.{from_joe}
use Rattle.promises.specs.Pairs.{invite, under, line_m, typed}
use Rattle.promises.specs.Agreement.{start_of, none_left, field_and, Agree}

call_id : String → Field
call_id value = record { name = text "Call-ID"; values = text value ∷ [] }

-- another Call-ID and another body, of which no row asks
pub unasked_agree : Agree (from_joe 0) (invite "joe" "1" "m=a") (invite "joe" "2" "m=b")
unfolding invite call_id written judge profile_in read_request request_of start_of name_matches
unasked_agree = record {
  profile = profile_in (from_joe 0);
  accepts = refl;
  q = request_of (invite "joe" "1" "m=a");
  r = request_of (invite "joe" "2" "m=b");
  reads_q = refl;
  reads_r = refl;
  same_start_line = refl;
  same_fields = field_and refl (λ t. refl) (field_and {f = call_id "1"} {g = call_id "2"} refl (λ t. absurd t) none_left);
  same_body = λ t. absurd t;
}

pub short_agree : Agree (from_joe 0) (under "f") (under "From")
unfolding under written judge profile_in read_request request_of start_of
short_agree = record {
  profile = profile_in (from_joe 0);
  accepts = refl;
  q = request_of (under "f");
  r = request_of (under "From");
  reads_q = refl;
  reads_r = refl;
  same_start_line = refl;
  same_fields = field_and refl (λ t. refl) none_left;
  same_body = λ t. absurd t;
}

-- another From
pub asked_differ : ((advance (fresh 0) (from_joe 0) (invite "joe" "1" "m=a")).outcome ≡ 1) × ((advance (fresh 0) (from_joe 0) (invite "ann" "1" "m=a")).outcome ≡ 2)
unfolding invite written advance
asked_differ = (refl, refl)

pub type_differ : ((advance (fresh 0) line_m (typed "application/sdp")).outcome ≡ 1) × ((advance (fresh 0) line_m (typed "text/plain")).outcome ≡ 2)
unfolding typed written advance
type_differ = (refl, refl)
