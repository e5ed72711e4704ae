-- The scan of a text, from point to point.
use mathlib.Core.Path.{◌≡◌, refl, sym, ap, ap₂, ◌∙◌, subst}
use mathlib.Core.Bool.{Bool, true, false}
use Prim.Native.Nat.{ℕ, ◌+◌, ◌-◌, ◌≤◌, ◌<◌}
use native.Mathlib.Omega.{arith}
use mathlib.Core.List.{List}
use lib.ListN.{length, get_or, drop, drop_of_length-le, length-drop}
use lib.Seq.{drop-drop, drop-cons, get_or-drop}
use borrow.Author.Tests.{eq-eqb, ne_eqb}
use Rattle.octets.specs.Lists.{pick}
use Rattle.cuts.proofs.Search.{first_le}
use Rattle.grammar.specs.Reading.{read_as, wrong, better}
use Rattle.grammar.specs.Inner.Made.{Only, shifted, forget}
use Rattle.scan.specs.Table.{digit}
use Rattle.scan.specs.Inner.Points.{kind_of, class_of, outside, run, first_word, word_count}
use Rattle.scan.specs.Inner.Rests.{rest, plainly, at_end}
use Rattle.scan.specs.Inner.Turns.{Reached, Broken, Ended, Turns, by_words, TurnsAhead, words_ahead}
use Rattle.scan.specs.declared.scanner.Turn.{Turn}
use Rattle.scan.specs.declared.scanner.Kind.{Kind}
use Rattle.scan.specs.declared.scanner.Kind.TheVariants.{Digit}
use Rattle.scan.specs.declared.scanner.Turn.TheVariants.{Next, Whole, Wrong}
use Rattle.grammar.proofs.Better.{better_none}
use Rattle.grammar.proofs.Shifted.{shifted_add, shifted_wrong, shifted_read, made_shifted}
use Rattle.scan.proofs.Forgetting.{forget_choices}
use Rattle.scan.proofs.Leading.{behind, passed, none_at_end}
use Rattle.scan.proofs.PointLaws.{law}

-- ---- one way is as good as another that it comes to

turn_back : (way on : List ℕ → Only) (s : List ℕ) (at e : ℕ) → at ≤ e → way (drop at s) ≡ shifted (e - at) (on (drop e s))
    → (t : Turn) → Turns on s e t → Turns way s at t
turn_back way on s at e h g (Next z p) t = record {
  forward = omega (arith, h, t.forward);
  inside = t.inside;
  point = t.point;
  goes =
      let q : (e - at) + (z - e) ≡ z - at = omega (arith, h, t.forward) in
      g ∙ ap (shifted (e - at)) t.goes ∙ shifted_add (e - at) (z - e) (plainly p (drop z s)) ∙ ap (λ (n : ℕ). shifted n (plainly p (drop z s))) q;
}
turn_back way on s at e h g Whole t = record { ends = g ∙ ap (shifted (e - at)) t.ends ∙ shifted_read (e - at) tt }
turn_back way on s at e h g (Wrong n) t = record {
  forward = omega (arith, h, t.forward);
  stops =
      let q : (e - at) + (n - e) ≡ n - at = omega (arith, h, t.forward) in
      g ∙ ap (shifted (e - at)) t.stops ∙ shifted_wrong (e - at) (n - e) ∙ ap wrong q;
}

-- the words of a point, without the values
forget_turn : (s : List ℕ) (q e : ℕ) (t : Turn) → TurnsAhead (words_ahead q) s e t → Turns (by_words q) s e t
forget_turn s q e (Next z p) t = record {
  forward = t.forward;
  inside = t.inside;
  point = t.point;
  goes =
      sym (forget_choices rest (first_word q) (word_count q) (drop e s)) ∙ ap forget t.goes ∙ made_shifted (λ r. tt) (z - e) (rest p (drop z s));
}
forget_turn s q e Whole t = record { ends = sym (forget_choices rest (first_word q) (word_count q) (drop e s)) ∙ ap forget t.ends }
forget_turn s q e (Wrong n) t = record {
  forward = t.forward;
  stops = sym (forget_choices rest (first_word q) (word_count q) (drop e s)) ∙ ap forget t.stops;
}

-- ---- from a point over what it passes over

abbrev Ready : List ℕ → ℕ → Kind → Type 0
Ready s at kind = kind ≡ Digit → digit (get_or s at 0) ≡ true

front_is : (s : List ℕ) (at : ℕ) → get_or (drop at s) 0 0 ≡ get_or s at 0
front_is s at = let z : at + 0 ≡ at = omega arith in get_or-drop at s 0 0 ∙ ap (λ (n : ℕ). get_or s n 0) z

module _ (s : List ℕ) (at q : ℕ) (kind : Kind) (e : ℕ) (h : q < 42) (k : kind ≡ kind_of q) (d : Ready s at kind) (r : e ≡ at + run (class_of kind) (drop at s)) where
  r_is : e ≡ at + passed q (drop at s)
  r_is = r ∙ ap (λ (x : Kind). at + run (class_of x) (drop at s)) k

  led_to : plainly q (drop at s) ≡ shifted (e - at) (behind q (drop e s))
  led_to =
      let f : passed q (drop at s) ≡ e - at = omega (arith, r_is) in
      (law q h).leads (drop at s) (λ i. ap digit (front_is s at) ∙ d (k ∙ i))
      ∙ ap (λ (t : List ℕ). shifted (passed q (drop at s)) (behind q t)) (drop-drop (passed q (drop at s)) at s)
      ∙ ap₂ (λ (n m : ℕ). shifted n (behind q (drop m s))) f (sym r_is)

  pub lead_whole : q ≡ 0 → e ≡ length s → Ended tt (plainly q) s at
  lead_whole z l =
      let g : length s ≤ e = omega (arith, l) in
      record {
        ends =
            led_to
            ∙ ap (λ (b : Bool). shifted (e - at) (pick b (better (by_words q (drop e s)) (forget (at_end (drop e s)))) (by_words q (drop e s)))) (eq-eqb q 0 z)
            ∙ ap (λ (t : List ℕ). shifted (e - at) (better (by_words q t) (forget (at_end t)))) (drop_of_length-le s g)
            ∙ ap (λ (x : Only). shifted (e - at) (better x (read_as tt))) (none_at_end q h)
            ∙ shifted_read (e - at) tt;
      }

  pub lead_top : q ≡ 0 → (e ≡ length s → ⊥) → e ≤ length s → (t : Turn) → TurnsAhead (words_ahead q) s e t → Turns (plainly q) s at t
  lead_top z n l t u =
      let g : e < length s = omega (arith, l, n) in
      turn_back (plainly q) (by_words q) s at e (omega (arith, r))
      (led_to
      ∙ ap (λ (b : Bool). shifted (e - at) (pick b (better (by_words q (drop e s)) (forget (at_end (drop e s)))) (by_words q (drop e s)))) (eq-eqb q 0 z)
      ∙ ap (λ (x : List ℕ). shifted (e - at) (better (by_words q (drop e s)) (forget (at_end x)))) (drop-cons s e 0 g)
      ∙ ap (shifted (e - at)) (better_none (by_words q (drop e s)))) t (forget_turn s q e t u)

  pub lead_on : (q ≡ 0 → ⊥) → (t : Turn) → TurnsAhead (words_ahead q) s e t → Turns (plainly q) s at t
  lead_on z t u =
      turn_back (plainly q) (by_words q) s at e (omega (arith, r))
      (led_to ∙ ap (λ (b : Bool). shifted (e - at) (pick b (better (by_words q (drop e s)) (forget (at_end (drop e s)))) (by_words q (drop e s)))) (ne_eqb q 0 z)) t (forget_turn s q e t u)

pub run_inside : (s : List ℕ) (at e : ℕ) (p : ℕ → Bool) → at ≤ length s → e ≡ at + run p (drop at s) → e ≤ length s
run_inside s at e p h r =
    let a : run p (drop at s) ≤ length (drop at s) = first_le (outside p) (drop at s) in
    let l : length (drop at s) ≡ length s - at = length-drop at s in
    omega (arith, a, l, h, r)

pub not_digit : (s : List ℕ) (at q : ℕ) → q < 42 → Digit ≡ kind_of q → (b : ℕ) → b ≡ get_or s at 0 → (t : Bool) → t ≡ digit b → t ≡ false
    → Broken (plainly q) s at at
not_digit s at q h k b e t c f = record {
  forward = omega arith;
  stops =
      let z : 0 ≡ at - at = omega arith in
      (law q h).refuses (drop at s) (sym k) (ap digit (front_is s at ∙ sym e) ∙ sym c ∙ f) ∙ ap wrong z;
}

pub first_digit : (s : List ℕ) (at b : ℕ) → b ≡ get_or s at 0 → (t : Bool) → t ≡ digit b → t ≡ true → digit (get_or s at 0) ≡ true
first_digit s at b e t c f = ap digit (sym e) ∙ sym c ∙ f

-- ---- from point to point

pub record Scanning (s : List ℕ) (from at q : ℕ) : Type 0 where
  pub inside : at ≤ length s
  pub point : q < 42
  pub same : shifted from (plainly 0 (drop from s)) ≡ shifted at (plainly q (drop at s))

pub scanning_first : (s : List ℕ) (from : ℕ) → from ≤ length s → Scanning s from from 0
scanning_first s from h = record { inside = h; point = omega arith; same = refl }

module _ (s : List ℕ) (from at q : ℕ) (c : Scanning s from at q) (t : Turn) (u : Turns (plainly q) s at t) where
  told : (x : Turn) → t ≡ x → Turns (plainly q) s at x
  told x e = subst (Turns (plainly q) s at) e u

  pub scanning_next : (e p : ℕ) → t ≡ Next e p → Scanning s from e p
  scanning_next e p f =
      let r : Reached plainly (plainly q) s at e p = told (Next e p) f in
      let n : at + (e - at) ≡ e = omega (arith, r.forward) in
      record {
        inside = r.inside;
        point = r.point;
        same = c.same ∙ ap (shifted at) r.goes ∙ shifted_add at (e - at) (plainly p (drop e s)) ∙ ap (λ (m : ℕ). shifted m (plainly p (drop e s))) n;
      }

  pub scanning_less : (e p : ℕ) → t ≡ Next e p → length s - e < length s - at
  scanning_less e p f = let r : Reached plainly (plainly q) s at e p = told (Next e p) f in omega (arith, r.forward, r.inside)

  pub scanning_whole : t ≡ Whole → read_as tt ≡ shifted from (plainly 0 (drop from s))
  scanning_whole f =
      let r : Ended tt (plainly q) s at = told Whole f in
      sym (c.same ∙ ap (shifted at) r.ends ∙ shifted_read at tt)

  pub scanning_wrong : (n : ℕ) → t ≡ Wrong n → wrong n ≡ shifted from (plainly 0 (drop from s))
  scanning_wrong n f =
      let r : Broken (plainly q) s at n = told (Wrong n) f in
      let m : at + (n - at) ≡ n = omega (arith, r.forward) in
      sym (c.same ∙ ap (shifted at) r.stops ∙ shifted_wrong at (n - at) ∙ ap wrong m)
