-- Each way past a criterion, worked on one small image: the server of priority 1 has no trigger and its default is "terminated"; the
-- recorder, of priority 2, is for INVITE.
use mathlib.Core.Option.{none}
use mathlib.Core.Path.{◌≡◌, refl, sym, ap, ◌∙◌, subst, subst₂}
use mathlib.Core.Logic.{◌⊎◌, inl, inr}
use Prim.Native.Nat.{ℕ}
use Prim.Native.String.{String}
use native.Mathlib.Omega.{arith}
use mathlib.Core.List.Memᴰ
use mathlib.Core.List.{List, [], ◌∷◌, ◌++◌, Memᴰ}
use lib.Dec.{T}
use Rattle.octets.specs.Lists.{text}
use Rattle.profile.specs.Inner.Decoded.{profile_in}
use Rattle.profile.specs.Written.{row_of, member_of, criterion_of, written}
use Rattle.profile.specs.Image.{Profile}
use Rattle.profile.specs.Judging.{judge}
use Rattle.request.specs.Request.{Request, read_request}
use Rattle.session.specs.Session.{fresh, open_session, report_session}
use Rattle.session.specs.declared.Session.{Session}
use Rattle.fitting.specs.Fitting.{criterion_fits}
use Rattle.order.specs.Order.{Numbered, numbered, priority}
use Rattle.route.specs.Advance.{in_session, advance}
use Rattle.promises.specs.Passed.{Step, its_report, after, its_refusal, Walk, at_end, stopped, step_and, Fits, Asks, ahead, WayPast, does_not_fit, final_response, not_reached, opening_refused, advance_refused, report_refused}

-- ---- the image and the requests

pub desk : List ℕ
desk = written (record {
  strings = text "INVITE" ∷ text "sip:a" ∷ text "sip:recorder" ∷ [];
  rows = row_of 0 1 0 65535 ∷ [];
  members = member_of 0 0 ∷ [];
  criteria = criterion_of 1 2 0 0 1 1 ∷ criterion_of 2 0 0 1 2 0 ∷ [];
})

-- its criteria, as they are read
pub first : Numbered
first = record {
  number = 0;
  criterion = record {
    priority = 1;
    part = 2;
    form = 2;
    first = 0;
    count = 0;
    server = record { start = 13; bytes = text "sip:a" };
    handling = 1;
    info = none;
  };
}

pub recorder : Numbered
recorder = record {
  number = 1;
  criterion = record {
    priority = 2;
    part = 2;
    form = 0;
    first = 0;
    count = 1;
    server = record { start = 20; bytes = text "sip:recorder" };
    handling = 0;
    info = none;
  };
}

-- a step of a session, with a method and a report
pub step : Session → String → ℕ → Step
step x m n = record { session = x; image = desk; request = text m ++ text " sip:b SIP/2.0\r\n\r\n"; report = n }

-- a walk that comes to its end, and a way past the recorder
pub record Shown (case : ℕ) (w : List Step) : Type 0 where
  pub walk : Walk (open_session case).session w
  pub way : WayPast case w 2

-- the call goes to the first server, whatever is reported of it then
pub goes : ℕ → Step
goes n = step (fresh 0) "INVITE" n

pub asks_first : (n : ℕ) → Asks (goes n) first
unfolding goes step desk written first judge profile_in advance
asks_first n = record { profile = profile_in desk; accepts = refl; member = Memᴰ.head refl; outcome = refl; number = refl }

-- ---- a server before it gave the final response, or was not reached and its default is "terminated"

pub by_final_response : Shown 0 (goes 2 ∷ [])
unfolding goes step desk written first advance report_session after its_refusal open_session
by_final_response = record {
  walk = step_and (goes 2) refl refl (at_end (λ e. let z : ◌≡◌ {A = ℕ} 4 0 = e in omega arith));
  way = final_response (goes 2) (Memᴰ.head refl) first (asks_first 2) (omega arith) refl;
}

pub by_not_reached : Shown 0 (goes 1 ∷ [])
unfolding goes step desk written first advance report_session after its_refusal open_session
by_not_reached = record {
  walk = step_and (goes 1) refl refl (at_end (λ e. let z : ◌≡◌ {A = ℕ} 3 0 = e in omega arith));
  way = not_reached (goes 1) (Memᴰ.head refl) first (asks_first 1) (omega arith) refl refl;
}

-- ---- it does not fit when its turn comes: the first server sends the call back as a MESSAGE

pub as_message : Step
as_message = step (after (goes 0)) "MESSAGE" 0

message : Request
message = record { method = text "MESSAGE"; uri = text "sip:b"; fields = []; body = [] }

-- what fits there is the first, which is behind
module _ (n : Numbered) (f : Fits as_message n) where
  of_desk : (n ≡ first) ⊎ Memᴰ n (recorder ∷ [])
  unfolding as_message goes step desk written first recorder judge profile_in
  of_desk =
      let e : f.profile ≡ profile_in desk = cc f.accepts in
      Memᴰ.cases_cons (subst (λ (p : Profile). Memᴰ n (numbered 0 p.criteria)) e f.member)

  not_recorder : n ≡ recorder → ⊥
  unfolding as_message goes step desk written first recorder message judge profile_in read_request after advance report_session criterion_fits
  not_recorder q =
      let e : f.profile ≡ profile_in desk = cc f.accepts in
      let g : f.in_hand ≡ message = cc f.reads in
      subst (λ (m : Numbered). T (criterion_fits message (in_session as_message.session) (profile_in desk) m.criterion)) q
      (subst₂ (λ (r : Request) (p : Profile). T (criterion_fits r (in_session as_message.session) p n.criterion)) g e f.fit)

  fits_first : n ≡ first
  fits_first = go of_desk
    where
      go : (n ≡ first) ⊎ Memᴰ n (recorder ∷ []) → n ≡ first
      go (inl e) = e
      go (inr d) = absurd (not_recorder (Memᴰ.eq_of_singleton d))

pub by_not_fitting : Shown 0 (goes 0 ∷ as_message ∷ [])
unfolding as_message goes step desk written first advance report_session after its_refusal open_session
by_not_fitting = record {
  walk = step_and (goes 0) refl refl (step_and as_message refl refl (at_end (λ e. let z : ◌≡◌ {A = ℕ} 2 0 = e in omega arith)));
  way =
      does_not_fit as_message (Memᴰ.tail (Memᴰ.head refl)) (record {
        answered = refl;
        above = tt;
        none_between = λ n f t lt. subst (λ (m : Numbered). T (ahead as_message.session (priority m))) (fits_first n f) t;
      })
      (λ n f e. let z : ◌≡◌ {A = ℕ} 1 2 = sym (ap priority (fits_first n f)) ∙ e in omega arith);
}

-- ---- the library refused: a case of 4; a REGISTER; a report of 3

pub by_refused_opening : Shown 4 []
unfolding open_session
by_refused_opening = record {
  walk = at_end (λ e. let z : ◌≡◌ {A = ℕ} 2 0 = e in omega arith);
  way = opening_refused (λ e. let z : ◌≡◌ {A = ℕ} 8 0 = e in omega arith);
}

pub as_register : Step
as_register = step (after (goes 0)) "REGISTER" 0

pub by_refused_advance : Shown 0 (goes 0 ∷ as_register ∷ [])
unfolding as_register goes step desk written advance report_session after its_refusal open_session
by_refused_advance =
    let eleven : its_refusal as_register ≡ 0 → ⊥ = λ e. let z : ◌≡◌ {A = ℕ} 11 0 = e in omega arith in
    record {
      walk = step_and (goes 0) refl refl (stopped as_register refl eleven);
      way = advance_refused as_register (Memᴰ.tail (Memᴰ.head refl)) tt eleven;
    }

pub by_refused_report : Shown 0 (goes 3 ∷ [])
unfolding goes step desk written first advance report_session after its_refusal open_session
by_refused_report =
    let eight : (its_report (goes 3)).refusal ≡ 0 → ⊥ = λ e. let z : ◌≡◌ {A = ℕ} 8 0 = e in omega arith in
    record {
      walk = stopped (goes 3) refl eight;
      way = report_refused (goes 3) (Memᴰ.head refl) first (asks_first 3) (omega arith) eight;
    }

-- ---- and not past it: the first server sends the call back as it was

pub as_it_was : Step
as_it_was = step (after (goes 0)) "INVITE" 2

pub asks_recorder : Asks as_it_was recorder
unfolding as_it_was goes step desk written recorder judge profile_in advance report_session after
asks_recorder = record { profile = profile_in desk; accepts = refl; member = Memᴰ.tail (Memᴰ.head refl); outcome = refl; number = refl }
