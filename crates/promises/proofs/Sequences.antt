-- Demand 3 over any sequence of calls, each with its own image, over a store of sessions.
use mathlib.Core.Path.{◌≡◌, refl, ap, ◌∙◌}
use mathlib.Core.List.{List, ◌∷◌}
use Rattle.listing.specs.Listing.{Listing}
use Rattle.route.specs.declared.Advanced.{Advanced}
use Rattle.show.specs.declared.Answer.{Answer}
use Rattle.promises.specs.Calls.{Call, advanced, listed, shown, Store, put, Stepped, step, Ran, run, Related, equal, advances, lists, shows, AllRelated, no_calls, call_and}
use Rattle.promises.proofs.Alike.{advance_same, listing_same}
use Rattle.promises.proofs.AlikeShown.{show_same}

step_same : {c d : Call} → Related c d → (st : Store) → step c st ≡ step d st
unfolding step
step_same equal st = refl
step_same (advances {k = k} {image = image} {a = a} {b = b} h) st =
    ap (λ (w : Advanced). record { answer = advanced w; store = put st k w.session }) (advance_same image a b h (st k))
step_same (lists {g = g} {image = image} {a = a} {b = b} {places = places} h) st =
    ap (λ (w : Listing). record { answer = listed w; store = st }) (listing_same image a b h g places)
step_same (shows {image = image} {a = a} {b = b} {row = k} h) st = ap (λ (w : Answer). record { answer = shown w; store = st }) (show_same image a b h k)

-- every answer is equal, refusals and counts included, and so is every session
pub run_same : {cs ds : List Call} → AllRelated cs ds → (st : Store) → run cs st ≡ run ds st
unfolding run
run_same no_calls st = refl
run_same (call_and {c = c} {d = d} {cs = cs} {ds = ds} h hs) st =
    ap (λ (s : Stepped). record { answers = s.answer ∷ (run cs s.store).answers; store = (run cs s.store).store }) (step_same h st)
    ∙ ap (λ (l : Ran). record { answers = (step d st).answer ∷ l.answers; store = l.store }) (run_same hs (step d st).store)
