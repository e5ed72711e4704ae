-- What check and the lookups answer, from what `accept` answered of the image.
use mathlib.Core.Option.{Option, none, some}
use mathlib.Core.Path.{◌≡◌, refl, sym, ap, ◌∙◌, subst}
use Prim.Native.Nat.{ℕ, ◌+◌, ◌*◌, ◌≤◌, ◌<◌, zero-le}
use mathlib.Core.List.{List}
use lib.ListN.{length, get_elem?}
use Rattle.octets.proofs.Options as options
use Rattle.octets.proofs.Each.{each_at}
use Rattle.profile.specs.Image as image
use Rattle.profile.specs.Image.{Stored, Judged, accepted, refused}
use Rattle.profile.specs.Judging.{judge}
use Rattle.profile.specs.Inner.Decoded.{layout, strings, string_of, criterion_with, criterion_from, profile_in}
use Rattle.lookups.specs.Lookups.{checked, check, no_part, the_part, look_at, look_judged, its_server, its_information, server, information, part_of, Checks, Serves, Informs}
use Rattle.lookups.specs.Inner.Looking.{Found}
use Rattle.entries.specs.declared.Criterion.{Criterion}
use Rattle.entries.specs.Inner.Places.{criterion_numbers}
use Rattle.std.specs.Prelude.{Ok, Err, Some, None}
use Rattle.cells.specs.Inner.Answers.{number_of}
use Rattle.cells.specs.declared.Refusal.{Refusal}
use borrow.Author.Tests.{eq-eqb, ne_eqb}
use Rattle.profile.specs.Inner.Kept.{Standing}
use Rattle.profile.specs.Inner.Accepting.{Accepts}
use Rattle.profile.specs.declared.Layout.{Layout}
use Rattle.lookups.specs.declared.Lookup.{Lookup}
use Rattle.profile.specs.declared.accepted_image.AcceptedImage.{AcceptedImage}
use Rattle.profile.proofs.Accepted.{Inside, Fine, accepted_sound}
use Rattle.profile.proofs.Opened.{spaced_past, spaced_at}
use Rattle.profile.proofs.Standings.{refused_as, stands_as, accepted_as}

-- ---- what the image itself answers

module _ (s : List ℕ) where
  pub checks_refused : (e : Refusal) → Accepts s (Err e) → (n : ℕ) → n ≡ number_of e.fault → Checks s (record { refusal = n; place = e.place })
  unfolding check
  checks_refused e h n en = record {
    answer = ap (λ (m : ℕ). record { refusal = m; place = e.place }) en ∙ sym (ap checked (refused_as s e h));
  }

  pub checks_accepted : (a : AcceptedImage) → Accepts s (Ok a) → Checks s (record { refusal = 0; place = 0 })
  unfolding check
  checks_accepted a h = record { answer = sym (ap checked (accepted_as s a.table.now a.layout (stands_as s a h))) }

-- a lookup of any part
module _ (part : image.Criterion → Option Stored) (s : List ℕ) (k : ℕ) where
  look_refused : (e : Refusal) → Accepts s (Err e) → (n : ℕ) → n ≡ number_of e.fault → no_part n e.place ≡ look_judged part (judge s) k
  look_refused e h n en = ap (λ (m : ℕ). no_part m e.place) en ∙ sym (ap (λ (d : Judged). look_judged part d k) (refused_as s e h))

  module _ (table : List ℕ) (y : Layout) (stands : Standing s table y) where
    look_on : look_judged part (judge s) k ≡ look_at part (get_elem? (profile_in s).criteria k)
    look_on = ap (λ (d : Judged). look_judged part d k) stands.accepts

    look_past : y.criterion_count ≤ k → no_part 13 0 ≡ look_judged part (judge s) k
    unfolding profile_in
    look_past l =
        let e : (layout s).criterion_count ≤ k = subst (λ (y : Layout). y.criterion_count ≤ k) stands.layout_is l in
        sym (look_on ∙ ap (look_at part) (spaced_past (criterion_from (strings s) s) 15 (layout s).criteria (layout s).criterion_count k e))

    look_there : k < y.criterion_count → the_part (part (criterion_from (strings s) s (y.criteria + 15 * k))) ≡ look_judged part (judge s) k
    unfolding profile_in
    look_there l =
        let e : k < (layout s).criterion_count = subst (λ (y : Layout). k < y.criterion_count) stands.layout_is l in
        ap (λ (y : Layout). the_part (part (criterion_from (strings s) s (y.criteria + 15 * k)))) stands.layout_is
        ∙ sym (look_on ∙ ap (look_at part) (spaced_at (criterion_from (strings s) s) 15 (layout s).criteria (layout s).criterion_count k e))

-- ---- the criterion that is looked for

module _ (s table : List ℕ) (y : Layout) (stands : Standing s table y) (k : ℕ) where
  pub found_past : y.criterion_count ≤ k → Found s k None
  found_past l = λ part. look_past part s k table y stands l

  pub found_there : (c : Criterion) → c ≡ criterion_numbers s (y.criteria + 15 * k) → k < y.criterion_count → Found s k (Some c)
  unfolding criterion_from
  found_there c e l = λ part. ap (λ (x : Criterion). the_part (part (criterion_with (strings s) x))) e ∙ look_there part s k table y stands l

-- ---- the lookups' answers

module _ (s : List ℕ) (k : ℕ) (l : Lookup) where
  module _ (e : Refusal) (h : Accepts s (Err e)) (n : ℕ) (en : n ≡ number_of e.fault) (q : l ≡ no_part n e.place) where
    pub serves_refused : Serves s k l
    unfolding server
    serves_refused = record { answer = q ∙ look_refused its_server s k e h n en }

    pub informs_refused : Informs s k l
    unfolding information
    informs_refused = record { answer = q ∙ look_refused its_information s k e h n en }

  module _ (a : AcceptedImage) (here : Accepts s (Ok a)) where
    module _ (there : Found a.bytes.now k None) (q : l ≡ no_part 13 0) where
      pub serves_none : Serves s k l
      unfolding server
      serves_none = record { answer = q ∙ there its_server ∙ ap (λ (t : List ℕ). look_judged its_server (judge t) k) here }

      pub informs_none : Informs s k l
      unfolding information
      informs_none = record { answer = q ∙ there its_information ∙ ap (λ (t : List ℕ). look_judged its_information (judge t) k) here }

    module _ (c : Criterion) (there : Found a.bytes.now k (Some c)) where
      pub serves : l ≡ the_part (some (string_of (strings a.bytes.now) c.server)) → Serves s k l
      unfolding server criterion_with
      serves q = record { answer = q ∙ there its_server ∙ ap (λ (t : List ℕ). look_judged its_server (judge t) k) here }

      pub informs_absent : c.info ≡ 65535 → l ≡ no_part 0 0 → Informs s k l
      unfolding information criterion_with
      informs_absent n q = record {
        answer = q ∙ rw (eq-eqb c.info 65535 n) at (there its_information) ∙ ap (λ (t : List ℕ). look_judged its_information (judge t) k) here;
      }

      pub informs : (c.info ≡ 65535 → ⊥) → l ≡ the_part (some (string_of (strings a.bytes.now) c.info)) → Informs s k l
      unfolding information criterion_with
      informs n q = record {
        answer = q ∙ rw (ne_eqb c.info 65535 n) at (there its_information) ∙ ap (λ (t : List ℕ). look_judged its_information (judge t) k) here;
      }

-- ---- what is handed back lies in the image

ends_in : (s : List ℕ) (o : Option Stored) → options.Ok (Inside s) o → (the_part o).start + (the_part o).size ≤ length s
ends_in s none h = zero-le
ends_in s (some x) h = h.ends

look_in : (part : image.Criterion → Option Stored) (s : List ℕ) (n k : ℕ) → ((c : image.Criterion) → Fine s n c → options.Ok (Inside s) (part c))
    → (o : Option image.Criterion) → options.Ok (Fine s n) o → (look_at part o).start + (look_at part o).size ≤ length s
look_in part s n k f none h = zero-le
look_in part s n k f (some c) h = ends_in s (part c) (f c h)

judged_in : (part : image.Criterion → Option Stored) (s : List ℕ) (k : ℕ) → ((n : ℕ) (c : image.Criterion) → Fine s n c → options.Ok (Inside s) (part c))
    → (look_judged part (judge s) k).start + (look_judged part (judge s) k).size ≤ length s
judged_in part s k f = go (judge s) refl
  where
    go : (d : Judged) → judge s ≡ d → (look_judged part d k).start + (look_judged part d k).size ≤ length s
    go (refused n place) e = zero-le
    go (accepted p) e =
        look_in part s (length p.rows) k (f (length p.rows)) (get_elem? p.criteria k)
        (each_at (Fine s (length p.rows)) p.criteria k (accepted_sound s p e).fine)

pub server_in : (s : List ℕ) (k : ℕ) (l : Lookup) → Serves s k l → l.start + l.size ≤ length s
unfolding server
server_in s k l h = subst (λ (x : Lookup). x.start + x.size ≤ length s) (sym h.answer) (judged_in its_server s k (λ n c f. f.server_in))

pub information_in : (s : List ℕ) (k : ℕ) (l : Lookup) → Informs s k l → l.start + l.size ≤ length s
unfolding information
information_in s k l h = subst (λ (x : Lookup). x.start + x.size ≤ length s) (sym h.answer) (judged_in its_information s k (λ n c f. f.info_in))

-- the bytes of the definition's part
pub server_bytes : (s : List ℕ) (k : ℕ) (l : Lookup) (r : List ℕ) → Serves s k l → r ≡ part_of s l → r ≡ part_of s (server s k)
server_bytes s k l r h e = e ∙ ap (part_of s) h.answer

pub information_bytes : (s : List ℕ) (k : ℕ) (l : Lookup) (r : List ℕ) → Informs s k l → r ≡ part_of s l → r ≡ part_of s (information s k)
information_bytes s k l r h e = e ∙ ap (part_of s) h.answer
