-- What a lookup hands back is the string itself: its place and length, and the part of the image there is its bytes.
use mathlib.Core.Option.{Option, none, some}
use mathlib.Core.Path.{◌≡◌, sym, ap, ◌∙◌, subst}
use Prim.Native.Nat.{ℕ}
use mathlib.Core.List.{List}
use lib.ListN.{length, get_elem?}
use Rattle.octets.proofs.Options.{Ok}
use Rattle.octets.proofs.Each.{each_at}
use Rattle.profile.specs.Image.{Stored, Criterion, Profile, Judged, accepted}
use Rattle.profile.specs.Judging.{judge}
use Rattle.lookups.specs.Lookups.{its_server, its_information, look_judged, look_at, no_part, the_part, server, information, part_of}
use Rattle.profile.proofs.Accepted.{Inside, Fine, Sound, accepted_sound}

module _ (image : List ℕ) (p : Profile) (judged : judge image ≡ accepted p) (i : ℕ) (c : Criterion) (there : get_elem? p.criteria i ≡ some c) where
  is_fine : Fine image (length p.rows) c
  is_fine =
      let s : Sound image p = accepted_sound image p judged in
      subst (Ok (Fine image (length p.rows))) there (each_at (Fine image (length p.rows)) p.criteria i s.fine)

  looked : (part : Criterion → Option Stored) → look_judged part (judge image) i ≡ the_part (part c)
  looked part = ap (λ (j : Judged). look_judged part j i) judged ∙ ap (look_at part) there

  -- the server's
  pub server_part : (server image i ≡ the_part (some c.server)) × (part_of image (server image i) ≡ c.server.bytes)
  unfolding server
  server_part = (looked its_server, ap (part_of image) (looked its_server) ∙ sym is_fine.server_in.stands)

  -- the information's, where there is any
  pub information_part : (x : Stored) → c.info ≡ some x → (information image i ≡ the_part (some x)) × (part_of image (information image i) ≡ x.bytes)
  unfolding information
  information_part x e =
      let h : Inside image x = subst (Ok (Inside image)) e is_fine.info_in in
      let there : look_judged its_information (judge image) i ≡ the_part (some x) = looked its_information ∙ ap the_part e in
      (there, ap (part_of image) there ∙ sym h.stands)

  pub information_absent : c.info ≡ none → information image i ≡ no_part 0 0
  unfolding information
  information_absent e = looked its_information ∙ ap the_part e
