-- "It stays below 2^32": the trials of any listing, whatever the image and the request.
use mathlib.Core.Bool.{not}
use mathlib.Core.Option.{Option, none, some}
use mathlib.Core.Path.{◌≡◌, refl}
use Prim.Native.Nat.{ℕ, ◌<◌, ◌^◌}
use native.Mathlib.Omega.{arith}
use mathlib.Core.List.{List}
use lib.ListN.{length}
use lib.Dec.{leb}
use Rattle.octets.specs.Lists.{pick, total, same}
use Rattle.octets.proofs.Tests.{either}
use Rattle.octets.proofs.Options.{Ok}
use Rattle.profile.specs.Image.{Profile, Judged, accepted, refused}
use Rattle.profile.specs.Judging.{judge}
use Rattle.profile.proofs.Accepted.{Sound, accepted_sound}
use Rattle.request.specs.Request.{Request, read_request}
use Rattle.request.proofs.Few.{Small, request_small}
use Rattle.rows.specs.Rows.{REGISTER}
use Rattle.rows.specs.declared.Given.{Given}
use Rattle.fitting.specs.Fitting.{criterion_fits, criterion_trials}
use Rattle.fitting.proofs.Trials.{all_below}
use Rattle.listing.specs.Listing.{Listing, listed, refuse_list, filled, fill, fill_with, list_read, list_judged, listing}

abbrev Below : ℕ → Type 0
Below n = n < 2 ^ 32

abbrev BelowL : Listing → Type 0
BelowL l = Below l.answer.trials

fill_below : (s : List ℕ) (g : Given) (p : Profile) (q : Request) (places : List ℕ) → Sound s p → Small q → BelowL (fill q g p places)
unfolding fill fill_with
fill_below s g p q places k h =
    let l : List ℕ = listed (criterion_fits q g p) p.criteria in
    either BelowL (leb (length l) (length places)) (filled l (length p.criteria) (total (criterion_trials q g p) p.criteria) places) (refuse_list places 12 0)
    (all_below s p k q h g) (omega arith)

list_read_below : (s : List ℕ) (g : Given) (p : Profile) (o : Option Request) (places : List ℕ) → Sound s p → Ok Small o → BelowL (list_read g p o places)
list_read_below s g p none places k h = omega arith
list_read_below s g p (some q) places k h =
    let last : Listing = fill q g p places in
    let nine : Listing = pick (not (leb g.registration 2)) (refuse_list places 9 0) last in
    let eight : Listing = pick (not (leb g.case 3)) (refuse_list places 8 0) nine in
    either BelowL (not (same q.method REGISTER)) (refuse_list places 11 0) eight (omega arith)
    (either BelowL (not (leb g.case 3)) (refuse_list places 8 0) nine (omega arith)
    (either BelowL (not (leb g.registration 2)) (refuse_list places 9 0) last (omega arith) (fill_below s g p q places k h)))

pub listing_below : (g : Given) (image r places : List ℕ) → (listing g image r places).answer.trials < 2 ^ 32
unfolding listing
listing_below g image r places = go (judge image) refl
  where
    go : (j : Judged) → judge image ≡ j → BelowL (list_judged g j r places)
    go (accepted p) e = list_read_below image g p (read_request r) places (accepted_sound image p e) (request_small r)
    go (refused n place) e = omega arith
