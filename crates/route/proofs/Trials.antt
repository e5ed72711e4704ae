-- "It stays below 2^32": the trials of any advance, whatever the image, the request and the session.
use mathlib.Core.Bool.{◌&&◌}
use mathlib.Core.Option.{Option, none, some}
use mathlib.Core.Path.{◌≡◌, refl, sym, subst}
use Prim.Native.Nat.{ℕ, ◌<◌, ◌^◌}
use native.Mathlib.Omega.{arith}
use mathlib.Core.List.{List}
use lib.ListN.{length}
use lib.Dec.{eqb}
use Rattle.octets.specs.Lists.{total, same}
use Rattle.octets.proofs.Tests.{either}
use Rattle.octets.proofs.Options.{Ok}
use Rattle.octets.proofs.Kept.{total_only}
use Rattle.profile.specs.Image.{Profile, Judged, accepted, refused}
use Rattle.profile.specs.Judging.{judge}
use Rattle.profile.proofs.Accepted.{Sound, accepted_sound}
use Rattle.request.specs.Request.{Request, read_request}
use Rattle.request.proofs.Few.{Small, request_small}
use Rattle.session.specs.Session.{possible, ready}
use Rattle.session.specs.declared.Session.{Session}
use Rattle.rows.specs.Rows.{REGISTER}
use Rattle.rows.specs.declared.Given.{Given}
use Rattle.fitting.specs.Fitting.{criterion_fits, criterion_trials}
use Rattle.fitting.proofs.Trials.{all_below}
use Rattle.order.specs.Order.{Numbered, numbered, candidates, above_last, least, up_to}
use Rattle.route.specs.Advance.{refuse, answer, walk, walk_with, in_session, advance_read, advance_judged, advance}
use Rattle.route.specs.declared.Advanced.{Advanced}
use Rattle.order.proofs.Chosen.{numbered_total, up_to_le}

abbrev Below : ℕ → Type 0
Below n = n < 2 ^ 32

answer_trials : (x : Session) (o : Option Numbered) (e t : ℕ) → (answer x o e t).trials ≡ t
answer_trials x none e t = refl
answer_trials x (some n) e t = refl

walk_below : (s : List ℕ) (x : Session) (p : Profile) (q : Request) → Sound s p → Small q → Below (walk x p q).trials
unfolding walk walk_with candidates
walk_below s x p q k h =
    let g : Given = in_session x in
    let tr : Numbered → ℕ = λ n. criterion_trials q g p n.criterion in
    let ns : List Numbered = candidates x p.criteria in
    let o : Option Numbered = least (λ n. criterion_fits q g p n.criterion) ns in
    subst Below (sym (answer_trials x o (length (up_to o ns)) (total tr (up_to o ns))))
    (omega (
      arith,
      up_to_le tr o ns,
      total_only tr (above_last x) (numbered 0 p.criteria),
      numbered_total (criterion_trials q g p) 0 p.criteria,
      all_below s p k q h g,
    ))

read_below : (s : List ℕ) (x : Session) (p : Profile) (o : Option Request) → Sound s p → Ok Small o → Below (advance_read x p o).trials
read_below s x p none k h = omega arith
read_below s x p (some q) k h =
    either (λ (a : Advanced). Below a.trials) (same q.method REGISTER) (refuse x 11 0) (walk x p q) (omega arith) (walk_below s x p q k h)

judged_below : (x : Session) (image r : List ℕ) (j : Judged) → judge image ≡ j → Below (advance_judged x j r).trials
judged_below x image r (accepted p) e = read_below image x p (read_request r) (accepted_sound image p e) (request_small r)
judged_below x image r (refused n place) e = omega arith

pub advance_below : (x : Session) (image r : List ℕ) → (advance x image r).trials < 2 ^ 32
unfolding advance
advance_below x image r =
    either (λ (a : Advanced). Below a.trials) (possible x && eqb x.state ready) (advance_judged x (judge image) r) (refuse x 10 0)
    (judged_below x image r (judge image) refl) (omega arith)
