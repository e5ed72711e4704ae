-- The laws of two ways to go on.
use mathlib.Core.Path.{◌≡◌, refl, sym, ap, ap₂, ◌∙◌, fun_ext, subst⁻¹}
use mathlib.Core.Bool.{Bool, true, false}
use mathlib.Core.Option.{none, some}
use Prim.Native.Nat.{ℕ, zero, suc, ◌+◌, ◌<◌}
use native.Mathlib.Omega.{arith}
use mathlib.Core.List.{List, [], ◌∷◌}
use lib.Dec.{T, eqb}
use lib.ListN.{length}
use Rattle.octets.specs.Lists.{pick}
use Rattle.octets.proofs.Tests.{left, right, is_true}
use Rattle.grammar.specs.Grammar.{Grammar, word, one, span, ◌then◌, ◌or◌, option, many, into, ended}
use Rattle.grammar.specs.Reading.{Read, read_as, wrong, twice, later, larger, better, expect, expect_one, up_to, repeat, read}
use Rattle.grammar.proofs.Sound.{solid, sound, room, room_then, room_left, room_right, room_none, room_word}

larger_zero : (m : ℕ) → larger m 0 ≡ m
larger_zero zero = refl
larger_zero (suc m) = refl

larger_comm : (m n : ℕ) → larger m n ≡ larger n m
larger_comm zero zero = refl
larger_comm zero (suc n) = refl
larger_comm (suc m) zero = refl
larger_comm (suc m) (suc n) = ap suc (larger_comm m n)

larger_assoc : (l m n : ℕ) → larger (larger l m) n ≡ larger l (larger m n)
larger_assoc zero m n = refl
larger_assoc (suc l) zero n = refl
larger_assoc (suc l) (suc m) zero = refl
larger_assoc (suc l) (suc m) (suc n) = ap suc (larger_assoc l m n)

module _ {R : Type 0} where
  pub better_none : (x : Read R) → better x (wrong 0) ≡ x
  better_none (read_as r) = refl
  better_none (wrong m) = ap wrong (larger_zero m)
  better_none twice = refl

  pub none_better : (x : Read R) → better (wrong 0) x ≡ x
  none_better (read_as r) = refl
  none_better (wrong m) = refl
  none_better twice = refl

  pub better_comm : (x y : Read R) → better x y ≡ better y x
  better_comm (read_as r) (read_as q) = refl
  better_comm (read_as r) (wrong n) = refl
  better_comm (read_as r) twice = refl
  better_comm (wrong m) (read_as q) = refl
  better_comm (wrong m) (wrong n) = ap wrong (larger_comm m n)
  better_comm (wrong m) twice = refl
  better_comm twice (read_as q) = refl
  better_comm twice (wrong n) = refl
  better_comm twice twice = refl

  pub better_assoc : (x y z : Read R) → better (better x y) z ≡ better x (better y z)
  better_assoc (read_as a) (read_as b) (read_as c) = refl
  better_assoc (read_as a) (read_as b) (wrong n) = refl
  better_assoc (read_as a) (read_as b) twice = refl
  better_assoc (read_as a) (wrong m) (read_as c) = refl
  better_assoc (read_as a) (wrong m) (wrong n) = refl
  better_assoc (read_as a) (wrong m) twice = refl
  better_assoc (read_as a) twice z = refl
  better_assoc (wrong l) (read_as b) (read_as c) = refl
  better_assoc (wrong l) (read_as b) (wrong n) = refl
  better_assoc (wrong l) (read_as b) twice = refl
  better_assoc (wrong l) (wrong m) (read_as c) = refl
  better_assoc (wrong l) (wrong m) (wrong n) = ap wrong (larger_assoc l m n)
  better_assoc (wrong l) (wrong m) twice = refl
  better_assoc (wrong l) twice z = refl
  better_assoc twice y z = refl

  -- (a, b) and (c, d) are (a, c) and (b, d)
  pub crossed : (a b c d : Read R) → better (better a b) (better c d) ≡ better (better a c) (better b d)
  crossed a b c d =
      better_assoc a b (better c d)
      ∙ ap (better a) (sym (better_assoc b c d) ∙ ap (λ (x : Read R). better x d) (better_comm b c) ∙ better_assoc c b d)
      ∙ sym (better_assoc a c (better b d))

  pub later_better : (x y : Read R) → later (better x y) ≡ better (later x) (later y)
  later_better (read_as r) (read_as q) = refl
  later_better (read_as r) (wrong n) = refl
  later_better (read_as r) twice = refl
  later_better (wrong m) (read_as q) = refl
  later_better (wrong m) (wrong n) = refl
  later_better (wrong m) twice = refl
  later_better twice y = refl

  pick_better : (b : Bool) (x y : Read R) → pick b (later (better x y)) (wrong 0) ≡ better (pick b (later x) (wrong 0)) (pick b (later y) (wrong 0))
  pick_better true x y = later_better x y
  pick_better false x y = refl

  -- ---- reading goes by each way

  expect_better : (w : List ℕ) (k l : List ℕ → Read R) (s : List ℕ) → expect w (λ u. better (k u) (l u)) s ≡ better (expect w k s) (expect w l s)
  expect_better [] k l s = refl
  expect_better (c ∷ w) k l [] = refl
  expect_better (c ∷ w) k l (b ∷ s) =
      ap (λ (x : Read R). pick (eqb c b) (later x) (wrong 0)) (expect_better w k l s) ∙ pick_better (eqb c b) (expect w k s) (expect w l s)

  one_better : (p : ℕ → Bool) (k l : ℕ → List ℕ → Read R) (s : List ℕ)
      → expect_one p (λ b u. better (k b u) (l b u)) s ≡ better (expect_one p k s) (expect_one p l s)
  one_better p k l [] = refl
  one_better p k l (b ∷ s) = pick_better (p b) (k b s) (l b s)

  pick_both : (e : Bool) (a b c d : Read R) → pick e (better a b) (better c d) ≡ better (pick e a c) (pick e b d)
  pick_both true a b c d = refl
  pick_both false a b c d = refl

  up_to_better : (w p : List ℕ) (k l : List ℕ → Read R) (s : List ℕ) → up_to w p (λ u. better (k u) (l u)) s ≡ better (up_to w p k s) (up_to w p l s)
  up_to_better w p k l [] = refl
  up_to_better w p k l (b ∷ s) =
      ap (λ (x : Read R). later (pick (ended w (b ∷ p)) (better (k s) (l s)) x)) (up_to_better w (b ∷ p) k l s)
      ∙ ap later (pick_both (ended w (b ∷ p)) (k s) (l s) (up_to w (b ∷ p) k s) (up_to w (b ∷ p) l s))
      ∙ later_better (pick (ended w (b ∷ p)) (k s) (up_to w (b ∷ p) k s)) (pick (ended w (b ∷ p)) (l s) (up_to w (b ∷ p) l s))

  repeat_better : {A : Type 0} (r : (A → List ℕ → Read R) → List ℕ → Read R)
      → ((k l : A → List ℕ → Read R) (s : List ℕ) → r (λ a u. better (k a u) (l a u)) s ≡ better (r k s) (r l s))
      → (n : ℕ) (k l : List A → List ℕ → Read R) (s : List ℕ) → repeat r n (λ a u. better (k a u) (l a u)) s ≡ better (repeat r n k s) (repeat r n l s)
  repeat_better r e zero k l s = refl
  repeat_better {A} r e (suc n) k l s =
      ap (λ (f : A → List ℕ → Read R). better (r f s) (better (k [] s) (l [] s)))
      (fun_ext (λ a. fun_ext (λ u. repeat_better r e n (λ x. k (a ∷ x)) (λ x. l (a ∷ x)) u)))
      ∙ ap (λ (x : Read R). better x (better (k [] s) (l [] s))) (e (λ a. repeat r n (λ x. k (a ∷ x))) (λ a. repeat r n (λ x. l (a ∷ x))) s)
      ∙ crossed (r (λ a. repeat r n (λ x. k (a ∷ x))) s) (r (λ a. repeat r n (λ x. l (a ∷ x))) s) (k [] s) (l [] s)

  pub read_better : {A : Type 0} (g : Grammar A) (k l : A → List ℕ → Read R) (s : List ℕ)
      → read g (λ a u. better (k a u) (l a u)) s ≡ better (read g k s) (read g l s)
  unfolding read
  read_better (word w) k l s = expect_better w (k tt) (l tt) s
  read_better (one p) k l s = one_better p k l s
  read_better (span o c) k l s =
      ap (λ (f : List ℕ → Read R). expect o f s) (fun_ext (λ u. up_to_better c [] (k tt) (l tt) u))
      ∙ expect_better o (up_to c [] (k tt)) (up_to c [] (l tt)) s
  read_better (◌then◌ {A} {B} g h) k l s =
      ap (λ (f : A → List ℕ → Read R). read g f s) (fun_ext (λ a. fun_ext (λ u. read_better h (λ b. k (a, b)) (λ b. l (a, b)) u)))
      ∙ read_better g (λ a. read h (λ b. k (a, b))) (λ a. read h (λ b. l (a, b))) s
  read_better (g or h) k l s =
      ap₂ better (read_better g k l s) (read_better h k l s) ∙ crossed (read g k s) (read g l s) (read h k s) (read h l s)
  read_better (option g) k l s =
      ap (λ (x : Read R). better x (better (k none s) (l none s))) (read_better g (λ a. k (some a)) (λ a. l (some a)) s)
      ∙ crossed (read g (λ a. k (some a)) s) (read g (λ a. l (some a)) s) (k none s) (l none s)
  read_better (many g) k l s = repeat_better (read g) (λ m n t. read_better g m n t) (suc (length s)) k l s
  read_better (into f g) k l s = read_better g (λ a. k (f a)) (λ a. l (f a)) s

  -- ---- readings that agree on what is shorter

  abbrev pub Agree : {A : Type 0} → ℕ → (A → List ℕ → Read R) → (A → List ℕ → Read R) → Type 0
  Agree {A} n k l = (a : A) (v : List ℕ) → length v < n → k a v ≡ l a v

  expect_agree : (w : List ℕ) (n : ℕ) (k l : List ℕ → Read R) → ((v : List ℕ) → length v < n → k v ≡ l v)
      → (s : List ℕ) → length s < n + length w → expect w k s ≡ expect w l s
  expect_agree [] n k l e s h = e s (omega (arith, h))
  expect_agree (c ∷ w) n k l e [] h = refl
  expect_agree (c ∷ w) n k l e (b ∷ s) h = ap (λ (x : Read R). pick (eqb c b) (later x) (wrong 0)) (expect_agree w n k l e s (omega (arith, h)))

  up_to_agree : (w p : List ℕ) (n : ℕ) (k l : List ℕ → Read R) → ((v : List ℕ) → length v < n → k v ≡ l v)
      → (s : List ℕ) → length s < suc n → up_to w p k s ≡ up_to w p l s
  up_to_agree w p n k l e [] h = refl
  up_to_agree w p n k l e (b ∷ s) h =
      ap₂ (λ (x y : Read R). later (pick (ended w (b ∷ p)) x y)) (e s (omega (arith, h))) (up_to_agree w (b ∷ p) n k l e s (omega (arith, h)))

  one_agree : (p : ℕ → Bool) (n : ℕ) (k l : ℕ → List ℕ → Read R) → Agree n k l → (s : List ℕ) → length s < suc n → expect_one p k s ≡ expect_one p l s
  one_agree p n k l e [] h = refl
  one_agree p n k l e (b ∷ s) h = ap (λ (x : Read R). pick (p b) (later x) (wrong 0)) (e b s (omega (arith, h)))

  -- what takes at least one byte agrees where its rests agree on what is shorter
  abbrev Takes : {A : Type 0} → ((A → List ℕ → Read R) → List ℕ → Read R) → Type 0
  Takes {A} r = (n : ℕ) (k l : A → List ℕ → Read R) → Agree n k l → (s : List ℕ) → length s < suc n → r k s ≡ r l s

  repeat_fuel : {A : Type 0} (r : (A → List ℕ → Read R) → List ℕ → Read R) → Takes r
      → (m n : ℕ) (k : List A → List ℕ → Read R) (s : List ℕ) → length s < m → length s < n → repeat r m k s ≡ repeat r n k s
  repeat_fuel r e zero n k s h i = absurd (omega arith)
  repeat_fuel r e (suc m) zero k s h i = absurd (omega arith)
  repeat_fuel r e (suc m) (suc n) k s h i =
      ap (λ (x : Read R). better x (k [] s))
      (e (length s) (λ a. repeat r m (λ l. k (a ∷ l))) (λ a. repeat r n (λ l. k (a ∷ l)))
      (λ a v j. repeat_fuel r e m n (λ l. k (a ∷ l)) v (omega (arith, h, j)) (omega (arith, i, j))) s (omega arith))

  repeat_agree : {A : Type 0} (r : (A → List ℕ → Read R) → List ℕ → Read R) → Takes r
      → (m n : ℕ) (k l : List A → List ℕ → Read R) → Agree n k l → (s : List ℕ) → length s < n → repeat r m k s ≡ repeat r m l s
  repeat_agree r e zero n k l f s h = refl
  repeat_agree r e (suc m) n k l f s h =
      ap₂ better
      (e (length s) (λ a. repeat r m (λ x. k (a ∷ x))) (λ a. repeat r m (λ x. l (a ∷ x)))
      (λ a v j. repeat_agree r e m n (λ x. k (a ∷ x)) (λ x. l (a ∷ x)) (λ x. f (a ∷ x)) v (omega (arith, h, j))) s (omega arith))
      (f [] s h)

  takes : {A : Type 0} (g : Grammar A) → T (solid g)
      → ((n : ℕ) (k l : A → List ℕ → Read R) → Agree n k l → (s : List ℕ) → length s < room (solid g) n → read g k s ≡ read g l s) → Takes (read g)
  takes g t f n k l e s h = f n k l e s (subst⁻¹ (λ (x : Bool). length s < room x n) (is_true (solid g) t) h)

  pub read_agree : {A : Type 0} (g : Grammar A) → T (sound g) → (n : ℕ) (k l : A → List ℕ → Read R) → Agree n k l
      → (s : List ℕ) → length s < room (solid g) n → read g k s ≡ read g l s
  unfolding read sound solid
  read_agree (word w) t n k l e s h = expect_agree w n (k tt) (l tt) (e tt) s (omega (arith, h, room_word w n))
  read_agree (one p) t n k l e s h = one_agree p n k l e s h
  read_agree (span o []) t n k l e s h = absurd t
  read_agree (span o (c ∷ w)) t n k l e s h =
      expect_agree o (suc n) (up_to (c ∷ w) [] (k tt)) (up_to (c ∷ w) [] (l tt)) (λ v i. up_to_agree (c ∷ w) [] n (k tt) (l tt) (e tt) v i) s (omega (arith, h))
  read_agree (g then h) t n k l e s i =
      read_agree g (left (sound g) (sound h) t) (room (solid h) n) (λ a. read h (λ b. k (a, b))) (λ a. read h (λ b. l (a, b)))
      (λ a v j. read_agree h (right (sound g) (sound h) t) n (λ b. k (a, b)) (λ b. l (a, b)) (λ b. e (a, b)) v j)
      s (omega (arith, i, room_then (solid g) (solid h) n))
  read_agree (g or h) t n k l e s i =
      ap₂ better
      (read_agree g (left (sound g) (sound h) t) n k l e s (omega (arith, i, room_left (solid g) (solid h) n)))
      (read_agree h (right (sound g) (sound h) t) n k l e s (omega (arith, i, room_right (solid g) (solid h) n)))
  read_agree (option g) t n k l e s i =
      ap₂ better
      (read_agree g t n (λ a. k (some a)) (λ a. l (some a)) (λ a. e (some a)) s (omega (arith, i, room_none (solid g) n)))
      (e none s i)
  read_agree (many g) t n k l e s i =
      repeat_agree (read g) (takes g (left (solid g) (sound g) t) (λ m f h q v j. read_agree g (right (solid g) (sound g) t) m f h q v j)) (suc (length s)) n k l e s i
  read_agree (into f g) t n k l e s i = read_agree g t n (λ a. k (f a)) (λ a. l (f a)) (λ a. e (f a)) s i

  -- none or more: one and then none or more, or none
  pub many_unrolled : {A : Type 0} (g : Grammar A) → T (solid g) → T (sound g) → (k : List A → List ℕ → Read R) (s : List ℕ)
      → read (many g) k s ≡ better (read g (λ a. read (many g) (λ l. k (a ∷ l))) s) (k [] s)
  unfolding read
  many_unrolled g t u k s =
      ap (λ (x : Read R). better x (k [] s))
      (takes g t (read_agree g u) (length s) (λ a. repeat (read g) (length s) (λ l. k (a ∷ l))) (λ a. read (many g) (λ l. k (a ∷ l)))
      (λ a v j. repeat_fuel (read g) (takes g t (read_agree g u)) (length s) (suc (length v)) (λ l. k (a ∷ l)) v j (omega arith)) s (omega arith))
