-- `read_text` gives what is read from a text of the grammar, or else the place of `WrongAt`.
use mathlib.Core.Path.{◌≡◌, refl, sym, ap, ap₂, subst, subst⁻¹, ◌∙◌}
use mathlib.Core.Bool.{Bool, true, false, ◌&&◌}
use mathlib.Core.Option.{Option, none, some}
use mathlib.Core.Logic.{inl, inr, ⊎_elim}
use Prim.Native.Nat.{ℕ, zero, suc, ◌+◌, ◌≤◌, ◌<◌}
use native.Mathlib.Omega.{arith}
use mathlib.Core.List.{List, [], ◌∷◌, ◌++◌, append_assoc, append-nil, reverse_aux}
use lib.Dec.{T, eqb, eqb→eq, eqb_refl}
use lib.ListN.{length, take}
use Rattle.octets.specs.Lists.{pick, some_of}
use Rattle.cuts.specs.Cutting.{begins}
use Rattle.octets.proofs.Tests.{both, left, right, or_cases, by_test, test_cases, is_true, T_of, not_T_of}
use Rattle.grammar.specs.Grammar.{Grammar, word, one, span, ◌then◌, ◌or◌, option, many, into, ended, UpTo, Each, AtMost, Member, WrongAt}
use Rattle.grammar.specs.Reading.{Read, read_as, wrong, twice, later, better, expect, expect_one, up_to, repeat, read, end, read_text}
use Rattle.grammar.proofs.Sound.{solid, below, sound, Says, room, room_then, room_left, room_right, room_none, room_word}
use Rattle.grammar.proofs.Languages.{Lang, after, Alive, Right, right_same, right_later, Either, right_better, Prefixes, prefixes}

-- ---- lists

nil_cons : {X : Type 0} (b : ℕ) (s : List ℕ) → [] ≡ b ∷ s → X
nil_cons b s e = let z : ◌≡◌ {A = ℕ} 0 1 = cc in absurd (omega arith)

nil_left : (u v : List ℕ) → [] ≡ u ++ v → u ≡ []
nil_left [] v e = refl
nil_left (b ∷ u) v e = nil_cons b (u ++ v) e

nil_right : (u v : List ℕ) → [] ≡ u ++ v → v ≡ []
nil_right [] v e = sym e
nil_right (b ∷ u) v e = nil_cons b (u ++ v) e

-- ---- a text of g, and then one of K

abbrev pub Seq : {A R : Type 0} → Grammar A → (A → Lang R) → Lang R
Seq {A} g K t r = (a : A) × (u : List ℕ) × (v : List ℕ) × (t ≡ u ++ v) × Member g u a × K a v r

-- ---- these bytes

abbrev Words : {R : Type 0} → List ℕ → Lang R → Lang R
Words [] L t r = L t r
Words (c ∷ w) L [] r = ⊥
Words (c ∷ w) L (b ∷ t) r = (c ≡ b) × Words w L t r

words_in : {R : Type 0} (w : List ℕ) (L : Lang R) (v : List ℕ) (r : R) → L v r → Words w L (w ++ v) r
words_in [] L v r l = l
words_in (c ∷ w) L v r l = (refl, words_in w L v r l)

words_out : {R : Type 0} (w : List ℕ) (L : Lang R) (t : List ℕ) (r : R) → Words w L t r → (v : List ℕ) × (t ≡ w ++ v) × L v r
words_out [] L t r l = (t, refl, l)
words_out (c ∷ w) L [] r l = absurd l
words_out (c ∷ w) L (b ∷ t) r l =
    let p = words_out w L t r l.1 in
    (p.0, ap₂ (λ (x : ℕ) (y : List ℕ). x ∷ y) (sym l.0) p.1, p.2)

words_alive : {R : Type 0} (w : List ℕ) (L : Lang R) → Alive L → Alive (Words w L)
words_alive w L a = (w ++ a.0, a.1, words_in w L a.0 a.1 a.2)

expect_right : {R : Type 0} (w : List ℕ) (L : Lang R) (k : List ℕ → Read R) → Alive L → (n : ℕ)
    → ((v : List ℕ) → length v < n → Right L v (k v)) → (s : List ℕ) → length s < n + length w → Right (Words w L) s (expect w k s)
expect_right [] L k a n ks s h = ks s (omega (arith, h))
expect_right (c ∷ w) L k a n ks [] h = (words_alive (c ∷ w) L a, λ r x. x)
expect_right (c ∷ w) L k a n ks (b ∷ s) h =
    by_test (Right (Words (c ∷ w) L) (b ∷ s)) (eqb c b) (later (expect w k s)) (wrong 0)
    (λ e. right_later (Words (c ∷ w) L) b s (expect w k s)
    (right_same (Words w L) (after b (Words (c ∷ w) L))
    (λ t r x. (eqb→eq c b (T_of e), x)) (λ t r x. x.1) s (expect w k s)
    (expect_right w L k a n ks s (omega (arith, h)))))
    (λ e. (words_alive (c ∷ w) L a, λ t r x. not_T_of e (subst (λ (y : ℕ). T (eqb c y)) x.0 (eqb_refl c))))

-- ---- one byte

abbrev Ones : {R : Type 0} → (ℕ → Bool) → (ℕ → Lang R) → Lang R
Ones p K [] r = ⊥
Ones p K (b ∷ t) r = T (p b) × K b t r

some_byte : (p : ℕ → Bool) (l : List ℕ) → T (some_of p l) → (b : ℕ) × T (p b)
some_byte p [] h = absurd h
some_byte p (b ∷ l) h = or_cases (p b) (some_of p l) h (λ t. (b, t)) (λ t. some_byte p l t)

ones_alive : {R : Type 0} (p : ℕ → Bool) (K : ℕ → Lang R) → (b : ℕ) × T (p b) → ((b : ℕ) → Alive (K b)) → Alive (Ones p K)
ones_alive p K b a = let x = a b.0 in (b.0 ∷ x.0, x.1, (b.1, x.2))

one_right : {R : Type 0} (p : ℕ → Bool) (K : ℕ → Lang R) (k : ℕ → List ℕ → Read R) → (b : ℕ) × T (p b) → ((b : ℕ) → Alive (K b)) → (n : ℕ)
    → ((b : ℕ) (v : List ℕ) → length v < n → Right (K b) v (k b v)) → (s : List ℕ) → length s < suc n → Right (Ones p K) s (expect_one p k s)
one_right p K k w a n ks [] h = (ones_alive p K w a, λ r x. x)
one_right p K k w a n ks (b ∷ s) h =
    by_test (Right (Ones p K) (b ∷ s)) (p b) (later (k b s)) (wrong 0)
    (λ e. right_later (Ones p K) b s (k b s)
    (right_same (K b) (after b (Ones p K)) (λ t r x. (T_of e, x)) (λ t r x. x.1) s (k b s) (ks b s (omega (arith, h)))))
    (λ e. (ones_alive p K w a, λ t r x. not_T_of e x.0))

-- ---- up to the first w

abbrev Ups : {R : Type 0} → List ℕ → List ℕ → Lang R → Lang R
Ups w p L [] r = ⊥
Ups w p L (b ∷ t) r = pick (ended w (b ∷ p)) (L t r) (Ups w (b ∷ p) L t r)

right_pick : {R : Type 0} (e : Bool) (L M : Lang R) (s : List ℕ) (x y : Read R) → Right L s x → Right M s y
    → Right (λ t r. pick e (L t r) (M t r)) s (pick e x y)
right_pick true L M s x y h k = h
right_pick false L M s x y h k = k

begins_front : (q p : List ℕ) → T (begins q (q ++ p))
begins_front [] p = tt
begins_front (c ∷ q) p = both (eqb c c) (begins q (q ++ p)) (eqb_refl c) (begins_front q p)

begins_turned : (w q p : List ℕ) → T (begins (reverse_aux w q) (reverse_aux w (q ++ p)))
begins_turned [] q p = begins_front q p
begins_turned (c ∷ w) q p = begins_turned w (c ∷ q) p

ups_now : {R : Type 0} (w p : List ℕ) (L : Lang R) (b : ℕ) → ended w (b ∷ p) ≡ true → Alive L → Alive (Ups w p L)
ups_now w p L b e a = (b ∷ a.0, a.1, subst⁻¹ (λ (x : Bool). pick x (L a.0 a.1) (Ups w (b ∷ p) L a.0 a.1)) e a.2)

ups_on : {R : Type 0} (w p : List ℕ) (L : Lang R) (b : ℕ) → ended w (b ∷ p) ≡ false → Alive (Ups w (b ∷ p) L) → Alive (Ups w p L)
ups_on w p L b e a = (b ∷ a.0, a.1, subst⁻¹ (λ (x : Bool). pick x (L a.0 a.1) (Ups w (b ∷ p) L a.0 a.1)) e a.2)

ups_by : {R : Type 0} (w : List ℕ) (L : Lang R) → Alive L → (x : List ℕ) (b : ℕ) (p : List ℕ) → T (ended w (reverse_aux x (b ∷ p))) → Alive (Ups w p L)
ups_by w L a [] b p h = ups_now w p L b (is_true (ended w (b ∷ p)) h) a
ups_by w L a (c ∷ x) b p h =
    test_cases (ended w (b ∷ p)) (λ e. ups_now w p L b e a) (λ e. ups_on w p L b e (ups_by w L a x c (b ∷ p) h))

ups_alive : {R : Type 0} (c : ℕ) (w p : List ℕ) (L : Lang R) → Alive L → Alive (Ups (c ∷ w) p L)
ups_alive c w p L a = ups_by (c ∷ w) L a w c p (begins_turned (c ∷ w) [] p)

up_to_right : {R : Type 0} (w : List ℕ) (L : Lang R) (k : List ℕ → Read R) → ((p : List ℕ) → Alive (Ups w p L)) → (n : ℕ)
    → ((v : List ℕ) → length v < n → Right L v (k v)) → (p s : List ℕ) → length s < suc n → Right (Ups w p L) s (up_to w p k s)
up_to_right w L k a n ks p [] h = (a p, λ r x. x)
up_to_right w L k a n ks p (b ∷ s) h =
    right_later (Ups w p L) b s (pick (ended w (b ∷ p)) (k s) (up_to w (b ∷ p) k s))
    (right_pick (ended w (b ∷ p)) L (Ups w (b ∷ p) L) s (k s) (up_to w (b ∷ p) k s)
    (ks s (omega (arith, h))) (up_to_right w L k a n ks (b ∷ p) s (omega (arith, h))))

ups_step : {R : Type 0} (e : Bool) (w p : List ℕ) (L : Lang R) (b : ℕ) (t : List ℕ) (r : R)
    → (Ups w (b ∷ p) L t r → (u : List ℕ) × (v : List ℕ) × (t ≡ u ++ v) × UpTo w (b ∷ p) u × L v r)
    → pick e (L t r) (Ups w (b ∷ p) L t r)
    → (u : List ℕ) × (v : List ℕ) × (t ≡ u ++ v) × pick e (u ≡ []) (UpTo w (b ∷ p) u) × L v r
ups_step true w p L b t r f x = ([], t, refl, refl, x)
ups_step false w p L b t r f x = f x

ups_out : {R : Type 0} (w p : List ℕ) (L : Lang R) (t : List ℕ) (r : R) → Ups w p L t r
    → (u : List ℕ) × (v : List ℕ) × (t ≡ u ++ v) × UpTo w p u × L v r
ups_out w p L [] r x = absurd x
ups_out w p L (b ∷ t) r x =
    let y = ups_step (ended w (b ∷ p)) w p L b t r (λ z. ups_out w (b ∷ p) L t r z) x in
    (b ∷ y.0, y.1, ap (λ (l : List ℕ). b ∷ l) y.2, y.3, y.4)

ups_in_by : {R : Type 0} (e : Bool) (w p : List ℕ) (L : Lang R) (b : ℕ) (u v : List ℕ) (r : R)
    → (UpTo w (b ∷ p) u → L v r → Ups w (b ∷ p) L (u ++ v) r)
    → pick e (u ≡ []) (UpTo w (b ∷ p) u) → L v r → pick e (L (u ++ v) r) (Ups w (b ∷ p) L (u ++ v) r)
ups_in_by true w p L b u v r f x l = subst⁻¹ (λ (z : List ℕ). L (z ++ v) r) x l
ups_in_by false w p L b u v r f x l = f x l

ups_in : {R : Type 0} (w p : List ℕ) (L : Lang R) (u v : List ℕ) (r : R) → UpTo w p u → L v r → Ups w p L (u ++ v) r
ups_in w p L [] v r x l = absurd x
ups_in w p L (b ∷ u) v r x l = ups_in_by (ended w (b ∷ p)) w p L b u v r (λ y m. ups_in w (b ∷ p) L u v r y m) x l

-- ---- a sample of each grammar

pub sample : {A : Type 0} (g : Grammar A) → T (sound g) → (u : List ℕ) × (a : A) × Member g u a
unfolding sound solid Member
sample (word w) h = (w, tt, refl)
sample (one p) h = let b = some_byte p (below 256) h in (b.0 ∷ [], b.0, (refl, b.1))
sample (span o []) h = absurd h
sample (span o (c ∷ w)) h =
    let a : Alive (Ups (c ∷ w) [] (λ t (r : Unit {0}). t ≡ [])) = ups_alive c w [] (λ t r. t ≡ []) ([], tt, refl) in
    let y = ups_out (c ∷ w) [] (λ t (r : Unit {0}). t ≡ []) a.0 a.1 a.2 in
    (o ++ y.0, tt, (y.0, refl, y.3))
sample (g then h) e =
    let x = sample g (left (sound g) (sound h) e) in
    let y = sample h (right (sound g) (sound h) e) in
    (x.0 ++ y.0, (x.1, y.1), (x.0, y.0, refl, x.2, y.2))
sample (g or h) e = let x = sample g (left (sound g) (sound h) e) in (x.0, x.1, inl x.2)
sample (option g) e = ([], none, refl)
sample (many g) e = ([], [], refl)
sample (into f g) e = let x = sample g e in (x.0, f x.1, (x.1, refl, x.2))

seq_alive : {A R : Type 0} (g : Grammar A) (K : A → Lang R) → T (sound g) → ((a : A) → Alive (K a)) → Alive (Seq g K)
seq_alive g K h a =
    let x = sample g h in
    let y = a x.1 in
    (x.0 ++ y.0, y.1, (x.1, x.0, y.0, refl, x.2, y.2))

-- ---- no text of a solid grammar is empty

pub not_empty : {A : Type 0} (g : Grammar A) → T (solid g) → (a : A) → Member g [] a → ⊥
unfolding solid Member
not_empty (word []) h a m = h
not_empty (word (c ∷ w)) h a m = nil_cons c w m
not_empty (one p) h a m = nil_cons a [] m.0
not_empty (span o []) h a m = h
not_empty (span o (c ∷ w)) h a m = subst (UpTo (c ∷ w) []) (nil_right o m.0 m.1) m.2
not_empty (g then h) e a m =
    or_cases (solid g) (solid h) e
    (λ t. not_empty g t a.0 (subst (λ (z : List ℕ). Member g z a.0) (nil_left m.0 m.1 m.2) m.3))
    (λ t. not_empty h t a.1 (subst (λ (z : List ℕ). Member h z a.1) (nil_right m.0 m.1 m.2) m.4))
not_empty (g or h) e a m =
    ⊎_elim (λ x. not_empty g (left (solid g) (solid h) e) a x) (λ x. not_empty h (right (solid g) (solid h) e) a x) m
not_empty (option g) e a m = e
not_empty (many g) e a m = e
not_empty (into f g) e a m = not_empty g e m.0 m.2

-- ---- the parts of a grammar, one after the other

ones_out : {R : Type 0} (p : ℕ → Bool) (K : ℕ → Lang R) (t : List ℕ) (r : R) → Ones p K t r → Seq (one p) K t r
unfolding Member
ones_out p K [] r x = absurd x
ones_out p K (b ∷ t) r x = (b, b ∷ [], t, refl, (refl, x.0), x.1)

ones_in : {R : Type 0} (p : ℕ → Bool) (K : ℕ → Lang R) (t : List ℕ) (r : R) → Seq (one p) K t r → Ones p K t r
unfolding Member
ones_in p K t r y = subst⁻¹ (λ (z : List ℕ). Ones p K z r) (y.3 ∙ ap (λ (z : List ℕ). z ++ y.2) y.4.0) (y.4.1, y.5)

word_out : {R : Type 0} (w : List ℕ) (K : Unit {0} → Lang R) (t : List ℕ) (r : R) → Words w (K tt) t r → Seq (word w) K t r
unfolding Member
word_out w K t r x = let p = words_out w (K tt) t r x in (tt, w, p.0, p.1, refl, p.2)

word_in : {R : Type 0} (w : List ℕ) (K : Unit {0} → Lang R) (t : List ℕ) (r : R) → Seq (word w) K t r → Words w (K tt) t r
unfolding Member
word_in w K t r y =
    subst⁻¹ (λ (z : List ℕ). Words w (K tt) z r) (y.3 ∙ ap (λ (z : List ℕ). z ++ y.2) y.4) (words_in w (K tt) y.2 r y.5)

span_out : {R : Type 0} (o c : List ℕ) (K : Unit {0} → Lang R) (t : List ℕ) (r : R) → Words o (Ups c [] (K tt)) t r → Seq (span o c) K t r
unfolding Member
span_out o c K t r x =
    let p = words_out o (Ups c [] (K tt)) t r x in
    let y = ups_out c [] (K tt) p.0 r p.2 in
    (tt, o ++ y.0, y.1, p.1 ∙ ap (λ (z : List ℕ). o ++ z) y.2 ∙ sym (append_assoc o y.0 y.1), (y.0, refl, y.3), y.4)

span_in : {R : Type 0} (o c : List ℕ) (K : Unit {0} → Lang R) (t : List ℕ) (r : R) → Seq (span o c) K t r → Words o (Ups c [] (K tt)) t r
unfolding Member
span_in o c K t r y =
    subst⁻¹ (λ (z : List ℕ). Words o (Ups c [] (K tt)) z r)
    (y.3 ∙ ap (λ (z : List ℕ). z ++ y.2) y.4.1 ∙ append_assoc o y.4.0 y.2)
    (words_in o (Ups c [] (K tt)) (y.4.0 ++ y.2) r (ups_in c [] (K tt) y.4.0 y.2 r y.4.2 y.5))

then_out : {A B R : Type 0} (g : Grammar A) (h : Grammar B) (K : A × B → Lang R) (t : List ℕ) (r : R)
    → Seq g (λ a. Seq h (λ b. K (a, b))) t r → Seq (g then h) K t r
unfolding Member
then_out g h K t r x =
    let y = x.5 in (
      (x.0, y.0),
      x.1 ++ y.1,
      y.2,
      x.3 ∙ ap (λ (z : List ℕ). x.1 ++ z) y.3 ∙ sym (append_assoc x.1 y.1 y.2),
      (x.1, y.1, refl, x.4, y.4),
      y.5,
    )

then_in : {A B R : Type 0} (g : Grammar A) (h : Grammar B) (K : A × B → Lang R) (t : List ℕ) (r : R)
    → Seq (g then h) K t r → Seq g (λ a. Seq h (λ b. K (a, b))) t r
unfolding Member
then_in g h K t r y =
    let m = y.4 in (
      y.0.0,
      m.0,
      m.1 ++ y.2,
      y.3 ∙ ap (λ (z : List ℕ). z ++ y.2) m.2 ∙ append_assoc m.0 m.1 y.2,
      m.3,
      (y.0.1, m.1, y.2, refl, m.4, y.5),
    )

or_out : {A R : Type 0} (g h : Grammar A) (K : A → Lang R) (t : List ℕ) (r : R) → Either (Seq g K) (Seq h K) t r → Seq (g or h) K t r
unfolding Member
or_out g h K t r (inl x) = (x.0, x.1, x.2, x.3, inl x.4, x.5)
or_out g h K t r (inr x) = (x.0, x.1, x.2, x.3, inr x.4, x.5)

or_in : {A R : Type 0} (g h : Grammar A) (K : A → Lang R) (t : List ℕ) (r : R) → Seq (g or h) K t r → Either (Seq g K) (Seq h K) t r
unfolding Member
or_in g h K t r y = ⊎_elim (λ m. inl (y.0, y.1, y.2, y.3, m, y.5)) (λ m. inr (y.0, y.1, y.2, y.3, m, y.5)) y.4

option_out : {A R : Type 0} (g : Grammar A) (K : Option A → Lang R) (t : List ℕ) (r : R)
    → Either (Seq g (λ a. K (some a))) (K none) t r → Seq (option g) K t r
unfolding Member
option_out g K t r (inl x) = (some x.0, x.1, x.2, x.3, x.4, x.5)
option_out g K t r (inr l) = (none, [], t, refl, refl, l)

option_by : {A R : Type 0} (g : Grammar A) (K : Option A → Lang R) (t : List ℕ) (r : R) (o : Option A) (u v : List ℕ)
    → t ≡ u ++ v → AtMost (Member g) u o → K o v r → Either (Seq g (λ a. K (some a))) (K none) t r
option_by g K t r none u v e m l = inr (subst⁻¹ (λ (z : List ℕ). K none z r) (e ∙ ap (λ (z : List ℕ). z ++ v) m) l)
option_by g K t r (some a) u v e m l = inl (a, u, v, e, m, l)

option_in : {A R : Type 0} (g : Grammar A) (K : Option A → Lang R) (t : List ℕ) (r : R)
    → Seq (option g) K t r → Either (Seq g (λ a. K (some a))) (K none) t r
unfolding Member
option_in g K t r y = option_by g K t r y.0 y.1 y.2 y.3 y.4 y.5

many_out : {A R : Type 0} (g : Grammar A) (K : List A → Lang R) (t : List ℕ) (r : R)
    → Either (Seq g (λ a. Seq (many g) (λ l. K (a ∷ l)))) (K []) t r → Seq (many g) K t r
unfolding Member
many_out g K t r (inl x) =
    let y = x.5 in (
      x.0 ∷ y.0,
      x.1 ++ y.1,
      y.2,
      x.3 ∙ ap (λ (z : List ℕ). x.1 ++ z) y.3 ∙ sym (append_assoc x.1 y.1 y.2),
      (x.1, y.1, refl, x.4, y.4),
      y.5,
    )
many_out g K t r (inr l) = ([], [], t, refl, refl, l)

many_by : {A R : Type 0} (g : Grammar A) (K : List A → Lang R) (t : List ℕ) (r : R) (l : List A) (u v : List ℕ)
    → t ≡ u ++ v → Each (Member g) u l → K l v r → Either (Seq g (λ a. Seq (many g) (λ l. K (a ∷ l)))) (K []) t r
unfolding Member
many_by g K t r [] u v e m x = inr (subst⁻¹ (λ (z : List ℕ). K [] z r) (e ∙ ap (λ (z : List ℕ). z ++ v) m) x)
many_by g K t r (a ∷ l) u v e m x =
    inl (a, m.0, m.1 ++ v, e ∙ ap (λ (z : List ℕ). z ++ v) m.2 ∙ append_assoc m.0 m.1 v, m.3, (l, m.1, v, refl, m.4, x))

many_in : {A R : Type 0} (g : Grammar A) (K : List A → Lang R) (t : List ℕ) (r : R)
    → Seq (many g) K t r → Either (Seq g (λ a. Seq (many g) (λ l. K (a ∷ l)))) (K []) t r
unfolding Member
many_in g K t r y = many_by g K t r y.0 y.1 y.2 y.3 y.4 y.5

into_out : {A B R : Type 0} (f : A → B) (g : Grammar A) (K : B → Lang R) (t : List ℕ) (r : R)
    → Seq g (λ a. K (f a)) t r → Seq (into f g) K t r
unfolding Member
into_out f g K t r x = (f x.0, x.1, x.2, x.3, (x.0, refl, x.4), x.5)

into_in : {A B R : Type 0} (f : A → B) (g : Grammar A) (K : B → Lang R) (t : List ℕ) (r : R)
    → Seq (into f g) K t r → Seq g (λ a. K (f a)) t r
unfolding Member
into_in {B = B} f g K t r y = (y.4.0, y.1, y.2, y.3, y.4.2, subst (λ (z : B). K z y.2 r) y.4.1 y.5)

-- ---- the theorem

-- reading is right for every rest
abbrev Reads : {A : Type 0} → Type 0 → Grammar A → Type 1
Reads {A} R g =
    (n : ℕ) (K : A → Lang R) (k : A → List ℕ → Read R)
    → ((a : A) → Alive (K a))
    → ((a : A) (v : List ℕ) → length v < n → Right (K a) v (k a v))
    → (s : List ℕ) → length s < suc n → Right (Seq g K) s (read g k s)

repeat_right : {A R : Type 0} (g : Grammar A) → T (solid g && sound g) → Reads R g
    → (n : ℕ) (K : List A → Lang R) (k : List A → List ℕ → Read R) → ((l : List A) → Alive (K l))
    → (m : ℕ) → ((l : List A) (v : List ℕ) → length v < m → Right (K l) v (k l v)) → n ≤ m
    → (s : List ℕ) → length s < n → Right (Seq (many g) K) s (repeat (read g) n k s)
unfolding sound
repeat_right g e ih zero K k a m ks le s h = absurd (omega arith)
repeat_right {A} {R} g e ih (suc n) K k a m ks le s h =
    right_same (Either (Seq g (λ x. Seq (many g) (λ l. K (x ∷ l)))) (K [])) (Seq (many g) K) (many_out g K) (many_in g K) s
    (better (read g (λ x. repeat (read g) n (λ l. k (x ∷ l))) s) (k [] s))
    (right_better (Seq g (λ x. Seq (many g) (λ l. K (x ∷ l)))) (K []) s (read g (λ x. repeat (read g) n (λ l. k (x ∷ l))) s) (k [] s)
    (ih n (λ x. Seq (many g) (λ l. K (x ∷ l))) (λ x. repeat (read g) n (λ l. k (x ∷ l)))
    (λ x. seq_alive (many g) (λ l. K (x ∷ l)) e (λ l. a (x ∷ l)))
    (λ x v i. repeat_right g e ih n (λ l. K (x ∷ l)) (λ l. k (x ∷ l)) (λ l. a (x ∷ l)) m (λ l. ks (x ∷ l)) (omega (arith, le)) v i)
    s (omega (arith, h)))
    (ks [] s (omega (arith, h, le))))

pub read_right : {A R : Type 0} (g : Grammar A) → T (sound g) → (n : ℕ) (K : A → Lang R) (k : A → List ℕ → Read R)
    → ((a : A) → Alive (K a)) → ((a : A) (v : List ℕ) → length v < n → Right (K a) v (k a v))
    → (s : List ℕ) → length s < room (solid g) n → Right (Seq g K) s (read g k s)
unfolding sound solid read
read_right (word w) e n K k a ks s h =
    right_same (Words w (K tt)) (Seq (word w) K) (word_out w K) (word_in w K) s (expect w (k tt) s)
    (expect_right w (K tt) (k tt) (a tt) n (ks tt) s (omega (arith, h, room_word w n)))
read_right (one p) e n K k a ks s h =
    right_same (Ones p K) (Seq (one p) K) (ones_out p K) (ones_in p K) s (expect_one p k s)
    (one_right p K k (some_byte p (below 256) e) a n ks s h)
read_right (span o []) e n K k a ks s h = absurd e
read_right (span o (c ∷ w)) e n K k a ks s h =
    let L = Ups (c ∷ w) [] (K tt) in
    right_same (Words o L) (Seq (span o (c ∷ w)) K) (span_out o (c ∷ w) K) (span_in o (c ∷ w) K) s
    (expect o (up_to (c ∷ w) [] (k tt)) s)
    (expect_right o L (up_to (c ∷ w) [] (k tt)) (ups_alive c w [] (K tt) (a tt)) (suc n)
    (λ v i. up_to_right (c ∷ w) (K tt) (k tt) (λ p. ups_alive c w p (K tt) (a tt)) n (ks tt) [] v i)
    s (omega (arith, h)))
read_right (g then h) e n K k a ks s i =
    let eg = left (sound g) (sound h) e in
    let eh = right (sound g) (sound h) e in
    right_same (Seq g (λ x. Seq h (λ y. K (x, y)))) (Seq (g then h) K) (then_out g h K) (then_in g h K) s
    (read g (λ x. read h (λ y. k (x, y))) s)
    (read_right g eg (room (solid h) n) (λ x. Seq h (λ y. K (x, y))) (λ x. read h (λ y. k (x, y)))
    (λ x. seq_alive h (λ y. K (x, y)) eh (λ y. a (x, y)))
    (λ x v j. read_right h eh n (λ y. K (x, y)) (λ y. k (x, y)) (λ y. a (x, y)) (λ y. ks (x, y)) v j)
    s (omega (arith, i, room_then (solid g) (solid h) n)))
read_right (g or h) e n K k a ks s i =
    right_same (Either (Seq g K) (Seq h K)) (Seq (g or h) K) (or_out g h K) (or_in g h K) s (better (read g k s) (read h k s))
    (right_better (Seq g K) (Seq h K) s (read g k s) (read h k s)
    (read_right g (left (sound g) (sound h) e) n K k a ks s (omega (arith, i, room_left (solid g) (solid h) n)))
    (read_right h (right (sound g) (sound h) e) n K k a ks s (omega (arith, i, room_right (solid g) (solid h) n))))
read_right (option g) e n K k a ks s i =
    right_same (Either (Seq g (λ x. K (some x))) (K none)) (Seq (option g) K) (option_out g K) (option_in g K) s
    (better (read g (λ x. k (some x)) s) (k none s))
    (right_better (Seq g (λ x. K (some x))) (K none) s (read g (λ x. k (some x)) s) (k none s)
    (read_right g e n (λ x. K (some x)) (λ x. k (some x)) (λ x. a (some x)) (λ x. ks (some x)) s (omega (arith, i, room_none (solid g) n)))
    (ks none s i))
read_right {R = R} (many g) e n K k a ks s i =
    repeat_right g e
    (λ m L l b ls t j. read_right g (right (solid g) (sound g) e) m L l b ls t
    (subst⁻¹ (λ (x : Bool). length t < room x m) (is_true (solid g) (left (solid g) (sound g) e)) j))
    (suc (length s)) K k a n ks (omega (arith, i)) s (omega arith)
read_right (into f g) e n K k a ks s i =
    right_same (Seq g (λ x. K (f x))) (Seq (into f g) K) (into_out f g K) (into_in f g K) s (read g (λ x. k (f x)) s)
    (read_right g e n (λ x. K (f x)) (λ x. k (f x)) (λ x. a (f x)) (λ x. ks (f x)) s i)

-- ---- the whole text

abbrev Ended : {A : Type 0} → A → Lang A
Ended a t r = (t ≡ []) × (a ≡ r)

end_right : {A : Type 0} (a : A) (s : List ℕ) → Right (Ended a) s (end a s)
end_right a [] = ((refl, refl), λ q x. sym x.1)
end_right a (b ∷ s) = (([], a, (refl, refl)), λ t r x. nil_cons b t (sym x.0))

says : {A : Type 0} (g : Grammar A) (s : List ℕ) (x : Read A) → Right (Member g) s x → Says g s x
says g s (read_as a) h = record { text = h.0; only = h.1 }
says g s twice h = tt
says g s (wrong n) h =
    let p : Prefixes (Member g) s n = prefixes (Member g) s n h in
    record {
      no_text = p.no_text;
      within = p.within;
      before = record { rest = p.before.0; value = p.before.1; whole = p.before.2 };
      here = λ i x. p.here i x.rest x.value x.whole;
    }

-- what is read is read from a text of the grammar, and what is refused is refused at the place that `WrongAt` says
pub meaning : {A : Type 0} (g : Grammar A) → T (sound g) → (s : List ℕ) → Says g s (read_text g s)
unfolding read_text
meaning {A} g e s =
    says g s (read g end s)
    (right_same (Seq g Ended) (Member g)
    (λ t r x. subst (λ (z : A). Member g t z) x.5.1 (subst⁻¹ (λ (z : List ℕ). Member g z x.0) (x.3 ∙ ap (λ (z : List ℕ). x.1 ++ z) x.5.0 ∙ append-nil x.1) x.4))
    (λ t r m. (r, t, [], sym (append-nil t), m, (refl, refl)))
    s (read g end s)
    (read_right g e (suc (length s)) Ended end (λ a. ([], a, (refl, refl))) (λ a v i. end_right a v) s
    (omega (arith, room_none (solid g) (suc (length s))))))

-- ---- one place

longer : {R : Type 0} (L : Lang R) (s : List ℕ) (m n : ℕ) → m ≤ n → (t : List ℕ) × (r : R) × L (take n s ++ t) r
    → (t : List ℕ) × (r : R) × L (take m s ++ t) r
longer L s zero n h x = (take n s ++ x.0, x.1, x.2)
longer L s (suc m) zero h x = absurd (omega (arith, h))
longer L [] (suc m) (suc n) h x = x
longer L (b ∷ s) (suc m) (suc n) h x = longer (after b L) s m n (omega (arith, h)) x

not_before : {A : Type 0} (g : Grammar A) (s : List ℕ) (m n : ℕ) → WrongAt g s m → WrongAt g s n → m < n → ⊥
not_before g s m n x y h =
    let b = y.before in
    let z = longer (Member g) s (suc m) n h (b.rest, b.value, b.whole) in
    x.here (omega (arith, h, y.within)) (record { rest = z.0; value = z.1; whole = z.2 })

-- a text goes wrong at one place only
pub one_place : {A : Type 0} (g : Grammar A) (s : List ℕ) (m n : ℕ) → WrongAt g s m → WrongAt g s n → m ≡ n
one_place g s m n x y =
    let a : m < n → ⊥ = not_before g s m n x y in
    let b : n < m → ⊥ = not_before g s n m y x in
    omega arith
