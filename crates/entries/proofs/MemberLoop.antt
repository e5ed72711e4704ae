-- The loop over the memberships: k of n are read, `last` is the last of them, and `counts` has how many each row has.
use Prim.Native.Nat.{ℕ, zero, suc, ◌+◌, ◌-◌, ◌*◌, ◌≤◌, ◌<◌}
use native.Mathlib.Omega.{arith}
use native.Mathlib.Nat.{sub-zero}
use native.Mathlib.Decide.{ℕ_discrete}
use mathlib.Core.Path.{◌≡◌, refl, sym, ap, ◌∙◌, fun_ext}
use mathlib.Core.Bool.{Bool, true, false, cond}
use mathlib.Core.List.{List, [], ◌∷◌, ◌++◌}
use lib.ListN.{length, take, get_or, set, replicate, length-set, length-replicate, get_or-replicate}
use lib.Seq.{length-take-le, get_or-set_same, get_or-set_other}
use lib.Dec.{ltb, eqb}
use borrow.Author.Tests.{eq-eqb, ne_eqb, ltb-true}
use Rattle.std.proofs.lemmas.List.{take-replicate}
use Rattle.cells.specs.Inner.Out.{Out, good, bad, must, ◌>>=◌}
use Rattle.cells.specs.Inner.Places.{many, u16, ends}
use Rattle.entries.specs.Inner.Places.{reading_member, reading_members, follows, comes, after, has, few, placed, reading_placed}
use Rattle.entries.specs.declared.Member.{Member}
use Rattle.entries.specs.Inner.Answers.{Counted}
use Rattle.std.specs.Prelude.{Option, Some, None, Ok}
use Rattle.cells.proofs.Laws.{bind_inv, must_inv, good_inj}
use Rattle.cells.proofs.Many.{left, many_step, many_bad, many_end}

follows_snoc : (l : List Member) (m : Member) (r g : ℕ) → follows (l ++ (m ∷ [])) r g ≡ after m.row m.group r g
follows_snoc [] m r g = refl
follows_snoc (x ∷ []) m r g = refl
follows_snoc (x ∷ y ∷ l) m r g = follows_snoc (y ∷ l) m r g

has_snoc : (l : List Member) (m : Member) (r : ℕ) → has (l ++ (m ∷ [])) r ≡ has l r + cond (eqb m.row r) 1 0
unfolding has
has_snoc [] m r = omega arith
has_snoc (x ∷ l) m r = let ih = has_snoc l m r in omega arith

one_more : (b : Bool) → ◌≤◌ (cond b 1 0) 1
one_more true = omega arith
one_more false = omega arith

tally_snoc : (counts : List ℕ) (l : List Member) (m : Member) (n : ℕ) → length counts ≡ n → m.row < n → ((r : ℕ) → r < n → get_or counts r 0 ≡ has l r)
    → (j : ℕ) → j < n → get_or (set counts m.row (get_or counts m.row 0 + 1)) j 0 ≡ has (l ++ (m ∷ [])) j
tally_snoc counts l m n e i t j lj = go (ℕ_discrete j m.row)
  where
    go : Dec (j ≡ m.row) → get_or (set counts m.row (get_or counts m.row 0 + 1)) j 0 ≡ has (l ++ (m ∷ [])) j
    go (yes q) =
        ap (λ (z : ℕ). get_or (set counts m.row (get_or counts m.row 0 + 1)) z 0) q
        ∙ get_or-set_same counts m.row _ 0 (omega arith)
        ∙ omega (arith, t m.row i, ap (has l) q, rw (eq-eqb m.row j (sym q)) at (has_snoc l m j))
    go (no q) =
        get_or-set_other counts m.row j _ 0 q
        ∙ omega (arith, t j lj, rw (ne_eqb m.row j (λ z. q (sym z))) at (has_snoc l m j))

member_row : (s : List ℕ) (rows at : ℕ) (ok : ℕ → ℕ → Bool) (m : Member) (e : ℕ) → reading_member s rows ok at ≡ good (m, e) → m.row < rows
unfolding reading_member
member_row s rows at ok m e q =
    let (r, q₁, q₂) = bind_inv (u16 s at) _ (m, e) q in
    let h = must_inv (ltb r rows) 4 at _ (m, e) q₂ in
    let (g, q₃, q₄) = bind_inv (u16 s (at + 2)) _ (m, e) h.1 in
    let h₂ = must_inv (ok r g) 4 at _ (m, e) q₄ in
    let z : r ≡ m.row = ap (λ (p : Member × ℕ). p.0.row) (good_inj h₂.1) in
    omega (arith, ltb-true r rows h.0)

abbrev next : List ℕ → ℕ → List Member → ℕ → Out (Member × ℕ)
next s rows before = reading_member s rows (follows before)

pub record MemberHead (s : List ℕ) (rows n start : ℕ) (counts : List ℕ) (last : Option Member) (k : ℕ) : Type 0 where
  pub count : k ≤ n
  pub long : length counts ≡ rows
  pub read : List Member
  pub so_far : reading_members s rows n start ≡ many (next s rows) (n - k) (start + 4 * k) read
  pub rises : (r g : ℕ) → follows read r g ≡ comes last r g
  pub tally : (r : ℕ) → r < rows → get_or counts r 0 ≡ has read r
  pub low : (r : ℕ) → r < rows → has read r ≤ k

module _ (s : List ℕ) (rows n start : ℕ) where
  pub members_first : (counts : List ℕ) → counts ≡ replicate rows 0 → MemberHead s rows n start counts None 0
  unfolding reading_members has
  members_first counts e = record {
    count = omega arith;
    long = ap length e ∙ length-replicate {A = ℕ} rows 0;
    read = [];
    so_far = rw sub-zero (ap (λ (a : ℕ). many (next s rows) n a []) (omega arith));
    rises = λ r g. refl;
    tally = λ r h. ap (λ (l : List ℕ). get_or l r 0) e ∙ get_or-replicate rows r 0 0 h;
    low = λ r h. omega arith;
  }

  module _ (counts : List ℕ) (last : Option Member) (k : ℕ) (hd : MemberHead s rows n start counts last k) where
    same : (o : Out (Member × ℕ)) → o ≡ reading_member s rows (comes last) (start + 4 * k) → next s rows hd.read (start + 4 * k) ≡ o
    same o e = ap (λ (t : ℕ → ℕ → Bool). reading_member s rows t (start + 4 * k)) (fun_ext (λ r. fun_ext (λ g. hd.rises r g))) ∙ sym e

    pub members_bad : (m q : ℕ) → k < n → bad m q ≡ reading_member s rows (comes last) (start + 4 * k) → reading_members s rows n start ≡ bad m q
    members_bad m q l e = hd.so_far ∙ many_bad (next s rows) n k (start + 4 * k) hd.read m q l (same _ e)

    module _ (m : Member) (e : good (m, start + 4 * k + 4) ≡ reading_member s rows (comes last) (start + 4 * k)) where
      pub in_table : m.row < rows
      in_table = member_row s rows (start + 4 * k) (comes last) m (start + 4 * k + 4) (sym e)

      pub room : get_or counts m.row 0 ≤ k
      room = let i = in_table in omega (arith, hd.tally m.row i, hd.low m.row i)

      pub members_more : (c : ℕ) → c ≡ get_or counts m.row 0 → k < n → MemberHead s rows n start (set counts m.row (c + 1)) (Some m) (k + 1)
      members_more c ec l =
          let i = in_table in
          let f : start + 4 * k + 4 ≡ start + 4 * (k + 1) = omega arith in
          rw ec (record {
            count = omega arith;
            long = length-set counts m.row _ ∙ hd.long;
            read = hd.read ++ (m ∷ []);
            so_far = hd.so_far ∙ many_step (next s rows) n k (start + 4 * k) hd.read m (start + 4 * k + 4) l (same _ e)
                ∙ ap (λ (a : ℕ). many (next s rows) (n - (k + 1)) a (hd.read ++ (m ∷ []))) f;
            rises = λ a b. follows_snoc hd.read m a b;
            tally = λ j lj. tally_snoc counts hd.read m rows hd.long i hd.tally j lj;
            low = λ j lj. omega (arith, has_snoc hd.read m j, one_more (eqb m.row j), hd.low j lj);
          })

    pub members_end : n ≤ k → Counted (Ok (start + 4 * n)) s rows n start counts
    members_end h =
        let z : k ≡ n = omega arith in
        let f : start + 4 * k ≡ start + 4 * n = omega arith in
        (hd.read, hd.so_far ∙ many_end (next s rows) n k (start + 4 * k) hd.read h ∙ ap (λ (a : ℕ). good (hd.read, a)) f, hd.tally, refl)

-- ---- every row has 1 to 8

module _ (f : ℕ → ℕ) (rows start : ℕ) where
  -- the rows before k are right
  pub record PlacedHead (k : ℕ) : Type 0 where
    pub so_far : placed f rows 0 start ≡ placed f (rows - k) k (start + 7 * k)

  pub placed_first : PlacedHead 0
  placed_first = record { so_far = rw sub-zero (ap (λ (a : ℕ). placed f rows 0 a) (omega arith)) }

  module _ (k : ℕ) (hd : PlacedHead k) (l : k < rows) where
    at_place : (b : Bool) → b ≡ (few (f k)) → placed f rows 0 start ≡ (must b 4 (start + 7 * k) >>= λ _. placed f (rows - (k + 1)) (k + 1) (start + 7 * k + 7))
    unfolding placed
    at_place b e = hd.so_far ∙ rw (left rows k l, e)

    module _ (b : Bool) (eb : b ≡ few (f k)) where
      pub placed_bad : (m q : ℕ) → bad m q ≡ must b 4 (start + 7 * k) → bad m q ≡ placed f rows 0 start
      placed_bad m q e = sym (at_place b eb ∙ rw (← e))

      pub placed_more : good tt ≡ must b 4 (start + 7 * k) → PlacedHead (k + 1)
      placed_more e =
          let g : start + 7 * k + 7 ≡ start + 7 * (k + 1) = omega arith in
          record { so_far = at_place b eb ∙ rw (← e) (ap (λ (a : ℕ). placed f (rows - (k + 1)) (k + 1) a) g) }

  pub placed_end : (k : ℕ) → PlacedHead k → rows ≤ k → good tt ≡ placed f rows 0 start
  unfolding placed
  placed_end k hd h = let z : rows - k ≡ zero = omega arith in sym (hd.so_far ∙ rw z)

-- ---- both

placed_same : (f g : ℕ → ℕ) (n r at : ℕ) → ((k : ℕ) → k < r + n → f k ≡ g k) → placed f n r at ≡ placed g n r at
unfolding placed
placed_same f g zero r at h = refl
placed_same f g (suc n) r at h =
    let ih = placed_same f g n (r + 1) (at + 7) (λ k l. h k (omega arith)) in
    rw (h r (omega arith), ih)

-- the room for the counts of so many rows
pub room_made : (rows : ℕ) → rows ≤ 2048 → length (take rows (replicate {A = ℕ} 2048 0)) ≡ rows
room_made rows h = length-take-le rows (replicate {A = ℕ} 2048 0) (omega (arith, length-replicate {A = ℕ} 2048 0))

pub cleared : (rows : ℕ) → rows ≤ 2048 → take rows (replicate {A = ℕ} 2048 0) ≡ replicate (length (take rows (replicate {A = ℕ} 2048 0))) 0
cleared rows h = take-replicate rows 2048 0 h ∙ ap (λ (k : ℕ). replicate k 0) (sym (room_made rows h))

module _ (s : List ℕ) (rows n start first w : ℕ) (ew : w ≡ rows) where
  abbrev Section : Out ℕ → Type 0
  Section o = o ≡ ends (reading_placed s rows n start first)

  pub section_bad : (m q : ℕ) → reading_members s w n start ≡ bad m q → Section (bad m q)
  unfolding reading_placed
  section_bad m q e = rw (← ew, e)

  module _ (counts : List ℕ) (e v : ℕ) (read : Counted (Ok e) s w n start counts) (ev : v ≡ w) where
    tallied : placed (λ j. get_or counts j 0) v 0 first ≡ placed (has read.0) w 0 first
    tallied = rw ev (placed_same (λ j. get_or counts j 0) (has read.0) w 0 first (λ j l. read.2 j (omega arith)))

    pub section_unplaced : (m q : ℕ) → bad m q ≡ placed (λ j. get_or counts j 0) v 0 first → Section (bad m q)
    unfolding reading_placed
    section_unplaced m q h = rw (← ew, read.1, ← tallied, ← h)

    pub section_end : good tt ≡ placed (λ j. get_or counts j 0) v 0 first → Section (good e)
    unfolding reading_placed
    section_end h = rw (← ew, read.1, ← tallied, ← h)
