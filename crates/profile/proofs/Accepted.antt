-- What every accepted image has: distinct priorities, at most 64 criteria, triggers of at most 32 rows that lie in the table,
-- memberships of rows that there are, and strings that stand in the image.
use mathlib.Core.Bool.{Bool, true, false, not, ◌&&◌, ◌||◌}
use mathlib.Core.Option.{none, some}
use mathlib.Core.Path.{◌≡◌, refl, sym, ap, ◌∙◌, subst}
use mathlib.Core.Logic.{◌⊎◌, inl, inr}
use Prim.Native.Nat.{ℕ, zero, suc, ◌+◌, ◌≤◌, ◌<◌}
use native.Mathlib.Omega.{arith}
use mathlib.Core.List.{List, [], ◌∷◌, ◌++◌}
use lib.ListN.{length, take, drop, get_or, get_elem?, length-take, length-drop}
use lib.Dec.{T, T_not, leb, ltb, eqb, leb→le, ltb→lt, eqb→eq, eqb_refl}
use Rattle.octets.specs.Lists.{pick, every, empty}
use Rattle.octets.proofs.Tests.{left, right, or_left}
use Rattle.octets.proofs.Options.{Ok}
use Rattle.octets.proofs.Each.{Each}
use Rattle.profile.specs.Reader.{Got, got, fault, Reader, and_then, number, integer, field, unless, entries}
use Rattle.profile.specs.Image.{Stored, Row, Member, Criterion, Profile, accepted, refused}
use Rattle.profile.specs.Judging.{string, as_server, as_information, naming, naming_or_absent, row, member, follows, last, all_rows_have, repeats, first_ok, count_ok, as_handled, criterion, nothing_follows, profile, verdict, judge}
use Rattle.profile.proofs.Gives.{Gives, then_any, then_with, gives_so, field_passes, unless_passes, naming_gives, naming_or_absent_gives, entries_keep, entries_each, entries_count}

-- ---- strings

-- its bytes stand in the image, at its start
pub record Inside (s : List ℕ) (x : Stored) : Type 0 where
  pub ends : x.start + length x.bytes ≤ length s
  pub stands : x.bytes ≡ take (length x.bytes) (drop x.start s)

module _ (s : List ℕ) where
  part_inside : (n at : ℕ) → at + n ≤ length s → Inside s (record { start = at; bytes = take n (drop at s) })
  part_inside n at h =
      let e : length (take n (drop at s)) ≡ n = simp (length-take, length-drop) (omega arith) in
      record { ends = omega (arith, e); stands = ap (λ (k : ℕ). take k (drop at s)) (sym e) }

  string_inside : (before : List Stored) (at : ℕ) → Gives (Inside s) (string before s at)
  string_inside before at = then_any (Inside s) (field 2 (λ n. leb n 1024) s at) _ (λ n next. go n next (leb (next + n) (length s)) refl)
    where
      go : (n next : ℕ) (b : Bool) → leb (next + n) (length s) ≡ b
          → Gives (Inside s) (and_then (and_then (pick b (got (tt {0}) next) (fault 2 (length s))) (λ u k. got (take n (drop k s)) (k + n)))
          (λ b k. got (record { start = next; bytes = b }) k))
      go n next true e = part_inside n next (leb→le (next + n) (length s) (subst T (sym e) tt))
      go n next false e = tt

  server_inside : (x : Stored) → Inside s x → Ok (Inside s) (as_server x)
  server_inside x h = go (empty x.bytes)
    where
      go : (b : Bool) → Ok (Inside s) (pick b none (some x))
      go true = tt
      go false = h

-- ---- a criterion

-- bytes are below 256
abbrev pub Bytes : List ℕ → Type 0
Bytes s = T (every (λ b. ltb b 256) s)

byte_at : (s : List ℕ) → Bytes s → (i : ℕ) → get_or s i 0 < 256
byte_at [] h i = omega arith
byte_at (b ∷ s) h zero = ltb→lt b 256 (left (ltb b 256) (every (λ b. ltb b 256) s) h)
byte_at (b ∷ s) h (suc i) = byte_at s (right (ltb b 256) (every (λ b. ltb b 256) s) h) i

four_bytes : (s : List ℕ) → Bytes s → (at : ℕ) → number 4 s at 0 < 4294967296
four_bytes s h at = omega (arith, byte_at s h at, byte_at s h (at + 1), byte_at s h (at + 1 + 1), byte_at s h (at + 1 + 1 + 1))

priority_read : (s : List ℕ) (at : ℕ) → Gives (λ v. Bytes s → v < 4294967296) (integer 4 s at)
priority_read s at = go (leb (at + 4) (length s))
  where
    go : (b : Bool) → Gives (λ v. Bytes s → v < 4294967296) (and_then (pick b (got (tt {0}) at) (fault 2 (length s))) (λ u next. got (number 4 s next 0) (next + 4)))
    go true = λ h. four_bytes s h at
    go false = tt

-- what holds of each criterion that is read
pub record Fine (s : List ℕ) (n_rows : ℕ) (c : Criterion) : Type 0 where
  pub short : c.count ≤ 32
  pub in_table : c.first + c.count ≤ n_rows
  pub handled : c.handling ≤ 1
  pub small : Bytes s → c.priority < 4294967296
  pub server_in : Inside s c.server
  pub info_in : Ok (Inside s) c.info

-- and how it differs from those before it
record New (s : List ℕ) (n_rows : ℕ) (before : List Criterion) (c : Criterion) : Type 0 where
  fresh : T (not (repeats before c.priority))
  fine : Fine s n_rows c

handled_le : (d : ℕ) → as_handled d ≤ 1
handled_le d = go (eqb d 1)
  where
    go : (b : Bool) → pick b 1 0 ≤ 1
    go true = omega arith
    go false = omega arith

count_fits : (n_rows form first v : ℕ) → T (first_ok form first) → T (count_ok n_rows form first v) → (v ≤ 32) × (first + v ≤ n_rows)
count_fits n_rows form first v f h = go (eqb form 2) f h
  where
    go : (b : Bool) → T (not b || eqb first 0) → T (pick b (eqb v 0) (leb 1 v && leb v 32 && leb (first + v) n_rows)) → (v ≤ 32) × (first + v ≤ n_rows)
    go true f t = let e : v ≡ 0 = eqb→eq v 0 t in let g : first ≡ 0 = eqb→eq first 0 f in (omega arith, omega arith)
    go false f t = (
      leb→le v 32 (right (leb 1 v) (leb v 32) (left (leb 1 v && leb v 32) (leb (first + v) n_rows) t)),
      leb→le (first + v) n_rows (right (leb 1 v && leb v 32) (leb (first + v) n_rows) t),
    )

module _ (s : List ℕ) (strings : List Stored) (all : Each (Inside s) strings) (n_rows : ℕ) where
  criterion_new : (before : List Criterion) (at : ℕ) → Gives (New s n_rows before) (criterion strings n_rows before s at)
  criterion_new before at =
      let N : Criterion → Type 0 = New s n_rows before in
      then_with N (λ v. Bytes s → v < 4294967296) (integer 4 s at) _ (priority_read s at) (λ p a1 small.
      then_with N (λ u. T (not (repeats before p))) (unless (not (repeats before p)) 6 at s a1) _ (unless_passes (not (repeats before p)) 6 at s a1) (λ u a2 fresh.
      then_any N (field 1 (λ v. leb v 2) s a2) _ (λ part a3.
      then_any N (field 1 (λ v. leb v 2) s a3) _ (λ form a4.
      then_with N (λ v. T (first_ok form v)) (field 2 (first_ok form) s a4) _ (field_passes 2 (first_ok form) s a4) (λ first a5 low.
      then_with N (λ v. T (count_ok n_rows form first v)) (field 2 (count_ok n_rows form first) s a5) _ (field_passes 2 (count_ok n_rows form first) s a5) (λ count a6 ok.
      then_with N (Inside s) (naming strings as_server s a6) _ (naming_gives (Inside s) (Inside s) strings all as_server (server_inside s) s a6) (λ server a7 server_in.
      then_any N (field 1 (λ v. leb v 2) s a7) _ (λ d a8.
      then_with N (Ok (Inside s)) (naming_or_absent strings as_information s a8) _ (naming_or_absent_gives (Inside s) (Inside s) strings all as_information (λ x h. h) s a8) (λ info a9 info_in.
      let fits = count_fits n_rows form first count low ok in
      record {
        fresh = fresh;
        fine = record { short = fits.0; in_table = fits.1; handled = handled_le d; small = small; server_in = server_in; info_in = info_in };
      })))))))))

-- ---- distinct priorities

-- "No two criteria have the same priority."
abbrev pub Distinct : List Criterion → Type 0
Distinct cs = (i j : ℕ) (c d : Criterion) → get_elem? cs i ≡ some c → get_elem? cs j ≡ some d → c.priority ≡ d.priority → i ≡ j

-- the last of a list, or one before it
at_snoc : {A : Type 0} (l : List A) (a : A) (i : ℕ) (x : A) → get_elem? (l ++ (a ∷ [])) i ≡ some x → (get_elem? l i ≡ some x) ⊎ ((i ≡ length l) × (x ≡ a))
at_snoc [] a zero x e = inr (refl, cc)
at_snoc [] a (suc i) x e = let z : ◌≡◌ {A = ℕ} 0 1 = cc in absurd (omega arith)
at_snoc (y ∷ l) a zero x e = inl e
at_snoc {A} (y ∷ l) a (suc i) x e = go (at_snoc l a i x e)
  where
    go : (get_elem? l i ≡ some x) ⊎ ((i ≡ length l) × (x ≡ a)) → (get_elem? l i ≡ some x) ⊎ ((suc i ≡ suc (length l)) × (x ≡ a))
    go (inl h) = inl h
    go (inr h) = inr (ap suc h.0, h.1)

-- a priority that is not repeated stands at no criterion before
not_before : (before : List Criterion) (p : ℕ) → T (not (repeats before p)) → (i : ℕ) (d : Criterion) → get_elem? before i ≡ some d → d.priority ≡ p → ⊥
not_before [] p t i d e q = let z : ◌≡◌ {A = ℕ} 0 1 = cc in omega arith
not_before (c ∷ cs) p t zero d e q =
    let same : c ≡ d = cc in
    T_not (eqb c.priority p || repeats cs p) t
    (or_left (eqb c.priority p) (repeats cs p) (subst (λ (k : ℕ). T (eqb c.priority k)) (ap (λ (k : Criterion). k.priority) same ∙ q) (eqb_refl c.priority)))
not_before (c ∷ cs) p t (suc i) d e q = not_before cs p (later (eqb c.priority p) (repeats cs p) t) i d e q
  where
    later : (a b : Bool) → T (not (a || b)) → T (not b)
    later true b h = absurd h
    later false b h = h

distinct_snoc : (cs : List Criterion) (c : Criterion) → Distinct cs → T (not (repeats cs c.priority)) → Distinct (cs ++ (c ∷ []))
distinct_snoc cs c h n i j x y ex ey q = go (at_snoc cs c i x ex) (at_snoc cs c j y ey)
  where
    go : (get_elem? cs i ≡ some x) ⊎ ((i ≡ length cs) × (x ≡ c)) → (get_elem? cs j ≡ some y) ⊎ ((j ≡ length cs) × (y ≡ c)) → i ≡ j
    go (inl a) (inl b) = h i j x y a b q
    go (inl a) (inr b) = absurd (not_before cs c.priority n i x a (q ∙ ap (λ (k : Criterion). k.priority) b.1))
    go (inr a) (inl b) = absurd (not_before cs c.priority n j y b (sym q ∙ ap (λ (k : Criterion). k.priority) a.1))
    go (inr a) (inr b) = a.0 ∙ sym b.0

none_distinct : Distinct []
none_distinct i j c d e f q = let z : ◌≡◌ {A = ℕ} 0 1 = cc in absurd (omega arith)

-- ---- memberships

member_in : (s : List ℕ) (n_rows : ℕ) (before : List Member) (at : ℕ) → Gives (λ m. m.row < n_rows) (member n_rows before s at)
member_in s n_rows before at =
    let P : Member → Type 0 = λ m. m.row < n_rows in
    then_with P (λ v. T (ltb v n_rows)) (field 2 (λ v. ltb v n_rows) s at) _ (field_passes 2 (λ v. ltb v n_rows) s at) (λ r a1 low.
    then_any P (integer 2 s a1) _ (λ g a2.
    then_any P (unless (follows (last before) (record { row = r; group = g })) 4 at s a2) _ (λ u a3. ltb→lt r n_rows low)))

-- ---- the whole image

pub record Sound (s : List ℕ) (p : Profile) : Type 0 where
  pub rows_few : length p.rows ≤ 2048
  pub members_few : length p.members ≤ 16384
  pub members_in : Each (λ m. m.row < length p.rows) p.members
  pub few : length p.criteria ≤ 64
  pub fine : Each (Fine s (length p.rows)) p.criteria
  pub distinct : Distinct p.criteria

module _ (s : List ℕ) where
  -- what is read up to section four, n_rows being the rows' number
  record Upper (n_rows : ℕ) (rows : List Row) (members : List Member) : Type 0 where
    many : length rows ≡ n_rows
    rows_few : n_rows ≤ 2048
    members_few : length members ≤ 16384
    members_in : Each (λ m. m.row < n_rows) members

  record Lower (n_rows : ℕ) (criteria : List Criterion) : Type 0 where
    few : length criteria ≤ 64
    fine : Each (Fine s n_rows) criteria
    distinct : Distinct criteria

  join : {n_rows : ℕ} {rows : List Row} {members : List Member} {criteria : List Criterion} → Upper n_rows rows members → Lower n_rows criteria
      → Sound s (record { rows = rows; members = members; criteria = criteria })
  join {rows = rows} {members = members} {criteria = criteria} u l = record {
    rows_few = omega (arith, u.many, u.rows_few);
    members_few = u.members_few;
    members_in = subst (λ (n : ℕ). Each (λ m. m.row < n) members) (sym u.many) u.members_in;
    few = l.few;
    fine = subst (λ (n : ℕ). Each (Fine s n) criteria) (sym u.many) l.fine;
    distinct = l.distinct;
  }

  criteria_lower : (strings : List Stored) → Each (Inside s) strings → (n_rows n at : ℕ) → T (leb n 64)
      → Gives (Lower n_rows) (entries (criterion strings n_rows) n [] s at)
  criteria_lower strings all n_rows n at low =
      go (entries one n [] s at)
      (entries_each one s (Fine s n_rows) (λ l k. gives_so (New s n_rows l) (Fine s n_rows) (one l s k) (criterion_new s strings all n_rows l k) (λ c h. h.fine)) n at)
      (entries_keep one s Distinct (λ l k h. gives_so (New s n_rows l) (λ c. Distinct (l ++ (c ∷ []))) (one l s k) (criterion_new s strings all n_rows l k) (λ c w. distinct_snoc l c h w.fresh)) n [] at none_distinct)
      (entries_count one s n [] at)
    where
      one : List Criterion → Reader Criterion
      one = criterion strings n_rows

      go : (r : Got (List Criterion)) → Gives (Each (Fine s n_rows)) r → Gives Distinct r → Gives (λ (m : List Criterion). length m ≡ 0 + n) r → Gives (Lower n_rows) r
      go (got cs at) f d e = record { few = omega (arith, e, leb→le n 64 low); fine = f; distinct = d }
      go (fault k place) f d e = tt

  members_read : (n_rows n at : ℕ) → Gives (λ (l : List Member). (length l ≡ 0 + n) × Each (λ m. m.row < n_rows) l) (entries (member n_rows) n [] s at)
  members_read n_rows n at =
      go (entries (member n_rows) n [] s at) (entries_count (member n_rows) s n [] at)
      (entries_each (member n_rows) s (λ m. m.row < n_rows) (member_in s n_rows) n at)
    where
      go : (r : Got (List Member)) → Gives (λ (l : List Member). length l ≡ 0 + n) r → Gives (Each (λ m. m.row < n_rows)) r
          → Gives (λ (l : List Member). (length l ≡ 0 + n) × Each (λ m. m.row < n_rows) l) r
      go (got l at) e h = (e, h)
      go (fault k place) e h = tt

  profile_sound : (at : ℕ) → Gives (Sound s) (profile s at)
  unfolding profile
  profile_sound at =
      let S : Profile → Type 0 = Sound s in
      then_any S (field 1 (λ v. eqb v 1) s at) _ (λ edition a1.
      then_any S (field 2 (λ n. leb n 1024) s a1) _ (λ n_strings a2.
      then_with S (Each (Inside s)) (entries string n_strings [] s a2) _ (entries_each string s (Inside s) (string_inside s) n_strings a2) (λ strings a3 all.
      then_with S (λ n. T (leb n 2048)) (field 2 (λ n. leb n 2048) s a3) _ (field_passes 2 (λ n. leb n 2048) s a3) (λ n_rows a4 rows_few.
      then_with S (λ (l : List Row). length l ≡ 0 + n_rows) (entries (row strings) n_rows [] s a4) _ (entries_count (row strings) s n_rows [] a4) (λ rows a5 many.
      then_with S (λ n. T (leb n 16384)) (field 2 (λ n. leb n 16384) s a5) _ (field_passes 2 (λ n. leb n 16384) s a5) (λ n_members a6 members_few.
      then_with S (λ (l : List Member). (length l ≡ 0 + n_members) × Each (λ m. m.row < n_rows) l) (entries (member n_rows) n_members [] s a6) _ (members_read n_rows n_members a6) (λ members a7 three.
      then_any S (all_rows_have members 0 rows s a7) _ (λ u a8.
      then_with S (λ n. T (leb n 64)) (field 2 (λ n. leb n 64) s a8) _ (field_passes 2 (λ n. leb n 64) s a8) (λ n_criteria a9 few.
      then_with S (Lower n_rows) (entries (criterion strings n_rows) n_criteria [] s a9) _ (criteria_lower strings all n_rows n_criteria a9 few) (λ criteria a10 lower.
      then_any S (nothing_follows s a10) _ (λ v a11.
      join (record { many = omega (arith, many); rows_few = leb→le n_rows 2048 rows_few; members_few = omega (arith, three.0, leb→le n_members 16384 members_few); members_in = three.1 }) lower)))))))))))

-- an accepted image is sound
pub accepted_sound : (s : List ℕ) (p : Profile) → judge s ≡ accepted p → Sound s p
unfolding judge
accepted_sound s p e = go (leb (length s) 32768) (profile s 0) (profile_sound s 0) e
  where
    go : (b : Bool) (r : Got Profile) → Gives (Sound s) r → pick b (verdict r) (refused 1 0) ≡ accepted p → Sound s p
    go true (got p' at) f e = subst (Sound s) (let q : p' ≡ p = cc in q) f
    go true (fault n place) f e = let z : ◌≡◌ {A = ℕ} 0 1 = cc in absurd (omega arith)
    go false r f e = let z : ◌≡◌ {A = ℕ} 0 1 = cc in absurd (omega arith)
