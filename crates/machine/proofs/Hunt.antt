-- The scan of a test, which ends at the first part that it finds; and what a scan leaves out, since it cannot change the answer.
use mathlib.Core.Path.{◌≡◌, refl, sym, ap, ap₂, ◌∙◌, subst, subst⁻¹}
use mathlib.Core.Bool.{Bool, true, false, not, ◌&&◌, ◌||◌, true≢false, or-false, and-false}
use mathlib.Core.List.{List, [], ◌∷◌}
use Prim.Native.Nat.{ℕ, zero, suc, ◌+◌, ◌-◌, ◌^◌, ◌<◌, ◌≤◌, zero-le}
use native.Mathlib.Omega.{arith}
use lib.Bits.{bit_and, bit_or, and_zero_r}
use lib.Count.{count_trailing_zeros}
use lib.Dec.{T, eqb, ltb}
use lib.ListN.{length, get_or, drop}
use lib.Seq.{drop-length}
use borrow.Author.Tests.{ltb-true, ltb-false, lt-ltb, eq-eqb, ne_eqb, eqb-true, not-true, not-false}
use Rattle.std.proofs.Common.{Some}
use Rattle.octets.specs.Bits.{bit}
use Rattle.octets.specs.Inner.Masks.{Below}
use Rattle.octets.specs.Lists.{empty}
use Rattle.octets.proofs.Bits.{bit_zero, bit_of_and, bit_drop, bit_inside, below_wider, lowest_set, lowest_drop, or_none_left, or_none_right}
use Rattle.octets.proofs.Tests.{T_of, is_true, not_T_of, both, left, right, or_right, or_cases, or_neither}
use Rattle.machine.specs.Inner.Machine.{Machine, Live, live_end, live_on, Starts, starts_none, starts_live, StartsAt, Leftmost, Found, first_mask, last_mask, null_at, null_somewhere, in_set, has, machine_of, Closed, Stepped, SomeMet, Only, Shut, LastMet, Passed}
use Rattle.machine.specs.declared.Shape.{Shape}
use Rattle.machine.proofs.Places.{drop_at, empty_at}
use Rattle.machine.proofs.Scan.{Scan, dead, met_has, has_met, scan_below, scan_miss, candidate_live, live_candidate, found_hit, found_miss, found_end, found_first_miss, found_neither, found_none, tested}

-- ---- a mask with one position

lowest_alone : (mask p : ℕ) → mask < 2 ^ 64 → (mask ≡ 0 → ⊥) → bit_and mask (mask - 1) ≡ 0 → p ≡ count_trailing_zeros 64 mask → bit mask p ≡ true
    → (k : ℕ) → T (bit mask k) → k ≡ p
lowest_alone mask p h n z e set k t =
    let rest : (bit mask k && not (eqb k p)) ≡ false =
    sym (bit_drop mask p k set) ∙ ap (λ (m : ℕ). bit m k) (sym (lowest_drop 64 mask p h n e) ∙ z) ∙ bit_zero k in
    eqb-true k p (not-false (eqb k p) (ap (λ (a : Bool). a && not (eqb k p)) (sym (is_true (bit mask k) t)) ∙ rest))

pub only_one : (mask p : ℕ) → mask < 2 ^ 64 → (mask ≡ 0 → ⊥) → p < 60 → bit_and mask (mask - 1) ≡ 0 → p ≡ count_trailing_zeros 64 mask → Only mask (Some p)
only_one mask p h n b z e =
    let set : bit mask p ≡ true = ap (bit mask) e ∙ lowest_set 64 mask h n in
    (b, lowest_alone mask p h n z e set)

-- ---- the way down to a byte that a position meets

module _ (set text : List ℕ) (from : ℕ) where
  pub last_first : LastMet set text from from
  last_first = record { within = omega arith; none = λ k l m. absurd (omega arith) }

  pub last_down : (i : ℕ) → 0 < i → LastMet set text from i → (r : Bool) → r ≡ in_set set (get_or text i 0) → r ≡ false → LastMet set text from (i - 1)
  last_down i z s r e q =
      let w : i ≤ from = s.within in
      record { within = omega arith; none = λ k l m. at k l m (ltb i k) refl }
    where
      at : (k : ℕ) → i - 1 < k → k ≤ from → (t : Bool) → ltb i k ≡ t → in_set set (get_or text k 0) ≡ false
      at k l m true u = s.none k (ltb-true i k u) m
      at k l m false u =
          let v : k ≤ i = ltb-false i k u in
          let same : k ≡ i = omega arith in
          ap (λ (j : ℕ). in_set set (get_or text j 0)) same ∙ sym e ∙ q

  pub last_none : (i : ℕ) → i ≤ 0 → LastMet set text from i → LastMet set text from 0
  last_none i z s = let e : i ≡ 0 = omega arith in subst (λ (n : ℕ). LastMet set text from n) e s

-- ---- whether the first byte shuts a text

pub start_below : (h : Shape) (before : List ℕ) → Closed h before → Below 60 h.start
start_below h before c = below_wider h.size 60 h.start c.few (c.starts true)

pub not_shut : (h : Shape) (sets : List (List ℕ)) (b : ℕ) → false ≡ true → Shut h sets b
not_shut h sets b e = absurd (true≢false (sym e))

pub shut_start : (h : Shape) (sets : List (List ℕ)) (b : ℕ) (r : Bool) → h.inner ≡ 0 → SomeMet sets h.start b r → not r ≡ true → Shut h sets b
shut_start h sets b r i w q = record { not_inner = i; not_start = w.no (not-true r q) }

-- ---- bytes that are left out

module _ (h : Shape) (sets : List (List ℕ)) (text : List ℕ) where
  -- from i down to k, no position that may end a part meets a byte
  abbrev Idle : ℕ → ℕ → Type 0
  Idle k i = (j : ℕ) → k ≤ j → j < i → (q : ℕ) → T (bit h.stops q) → has sets q (get_or text j 0) ≡ false

  -- the position `door` meets none of them, and no other may end a part
  unmet : (door k i : ℕ) → ((q : ℕ) → T (bit h.stops q) → q ≡ door) → ((j : ℕ) → k ≤ j → j < i → has sets door (get_or text j 0) ≡ false) → Idle k i
  unmet door k i one out j a b q t = ap (λ (p : ℕ). has sets p (get_or text j 0)) (one q t) ∙ out j a b

  module _ (next i : ℕ) (up : 0 < i) where
    pub pass_none : Passed h sets text next i i
    pass_none = record {
      above = up;
      within = omega arith;
      not_live = λ l. absurd (omega arith);
      not_empty = λ l. absurd (omega arith);
      not_last = λ l. absurd (omega arith);
      unmet = λ k a b. absurd (omega arith);
    }

    module _ (z : next ≡ 0) (m : h.middle ≡ false) (inside : i ≤ length text) (n : i ≡ length text → ⊥) where
      pub pass_all : h.stops ≡ 0 → Passed h sets text next i 1
      pass_all e = record {
        above = omega arith;
        within = omega arith;
        not_live = λ l. z;
        not_empty = λ l. m;
        not_last = λ l. omega (arith, n);
        unmet = λ k a b q t. absurd (not_T_of (ap (λ (x : ℕ). bit x q) e ∙ bit_zero q) t);
      }

      pub pass_door : (door r : ℕ) → Only h.stops (Some door) → LastMet (get_or sets door []) text (i - 1) r → Passed h sets text next i (r + 1)
      pass_door door r one w =
          let low : r ≤ i - 1 = w.within in
          record {
            above = omega arith;
            within = omega arith;
            not_live = λ l. z;
            not_empty = λ l. m;
            not_last = λ l. omega (arith, n);
            unmet = unmet door (r + 1) i one.1 (λ j a b. w.none j (omega arith) (omega arith));
          }

-- ---- the scan

-- the bytes above i are read, no part begins there, and these are the candidates for the byte at i
pub record Hunt (h : Shape) (sets : List (List ℕ)) (before text : List ℕ) (candidates i : ℕ) : Type 0 where
  pub next : ℕ
  pub inside : i < length text
  pub scan : Scan h sets before text (i + 1) next (length text + 1)
  pub known : candidates ≡ bit_or next (last_mask h (eqb (i + 1) (length text)))
  pub bare : null_somewhere h (length text) ≡ false

module _ (h : Shape) (sets : List (List ℕ)) (before : List ℕ) where
  abbrev M : Machine
  M = machine_of h sets before

  -- ---- where no position that may end a part meets the byte, nothing gets live

  idle : (b : ℕ) → ((k : ℕ) → T (bit h.stops k) → has sets k b ≡ false) → Stepped sets before (bit_or 0 h.stops) b 0 0 0
  idle b unmet =
      record {
        kept = λ k. bit_zero k ∙ sym (none_at k (bit h.stops k) refl);
        back = λ p t. absurd (not_T_of (bit_zero p) t);
        forth = λ p q t u. absurd (not_T_of (bit_zero q) t);
      }
    where
      none_at : (k : ℕ) (t : Bool) → bit h.stops k ≡ t → (bit (bit_or 0 h.stops) k && not (bit 0 k) && has sets k b) ≡ false
      none_at k true e = ap₂ (λ (a : Bool) (m : Bool). a && not (bit 0 k) && m) e (unmet k (T_of e)) ∙ and-false (true && not (bit 0 k))
      none_at k false e = ap (λ (a : Bool). a && not (bit 0 k) && has sets k b) e

  module _ (text : List ℕ) where
    -- ---- bytes at which nothing can get live

    -- from i down to k, no empty part fits
    abbrev Bare : ℕ → ℕ → Type 0
    Bare k i = (j : ℕ) → k ≤ j → j < i → null_at h (eqb j 0) false ≡ false

    quiet : (r i k n : ℕ) → k + n ≡ i → i < length text → Bare k i → Scan h sets before text i 0 r → Idle h sets text k i → Scan h sets before text k 0 r
    quiet r i k zero e l bare s out = let z : i ≡ k = omega arith in subst (λ (m : ℕ). Scan h sets before text m 0 r) z s
    quiet r i k (suc n) e l bare s out =
        scan_miss h sets before text (k + 1) k 0 r h.stops 0 0 refl
        (quiet r i (k + 1) n (omega arith) l (λ j a b. bare j (omega arith) b) s (λ j a b. out j (omega arith) b))
        (sym (ap (last_mask h) (ne_eqb (k + 1) (length text) (λ z. omega arith))))
        (idle (get_or text k 0) (out k (omega arith) (omega arith)))
        (tested h sets before text k false 0) refl
        (ap₂ ◌||◌ (bare k (omega arith) (omega arith)) (ap (λ (n : ℕ). not (eqb n 0)) (and_zero_r (first_mask h (eqb k 0)))))

    -- ---- the empty part

    pub found_empty : Closed h before → length text ≡ 0 → Found M text h.whole
    found_empty c z = go h.whole refl
      where
        tested_is : tested h sets before text (length text) true 0 ≡ h.whole
        tested_is =
            ap₂ ◌||◌ (ap (λ (a : Bool). null_at h a true) (eq-eqb (length text) 0 z)) (ap (λ (n : ℕ). not (eqb n 0)) (and_zero_r (first_mask h (eqb (length text) 0))))
            ∙ or-false h.whole

        go : (t : Bool) → h.whole ≡ t → Found M text t
        go true e = found_end h sets before text c (tested h sets before text (length text) true 0) refl (tested_is ∙ e)
        go false e = found_none h sets before text (length text) 0 (omega arith) (found_first_miss h sets before text c (tested h sets before text (length text) true 0) refl (tested_is ∙ e))

    found_yes : (j : ℕ) → j ≤ length text → StartsAt M text j → Found M text true
    found_yes j l s = record { yes = λ e. (j, l, s); no = λ e. absurd (true≢false e) }

    module _ (some : length text ≡ 0 → ⊥) where
      null_here : (j : ℕ) (a e : Bool) → j ≤ length text → eqb j 0 ≡ a → eqb j (length text) ≡ e → T (null_at h a e) → Found M text true
      null_here j a e l p q t =
          found_yes j l (starts_none (subst⁻¹ (λ (x : Bool). T (null_at h (eqb j 0) x)) (empty_at text j l ∙ q) (subst⁻¹ (λ (x : Bool). T (null_at h x e)) p t)))

      pub found_null : (r : Bool) → r ≡ null_somewhere h (length text) → r ≡ true → Found M text true
      found_null r e q =
          or_cases (h.head || h.tail) (h.middle && ltb 1 (length text)) (T_of (sym e ∙ q))
          (λ t. or_cases h.head h.tail t
          (λ u. null_here 0 true false (omega arith) refl (ne_eqb 0 (length text) (λ z. some (sym z))) u)
          (λ u. null_here (length text) false true (omega arith) (ne_eqb (length text) 0 some) (eq-eqb (length text) (length text) refl) u))
          (λ t. let l : 1 < length text = ltb-true 1 (length text) (is_true (ltb 1 (length text)) (right h.middle (ltb 1 (length text)) t)) in
          null_here 1 false false (omega arith) refl (ne_eqb 1 (length text) (λ z. omega arith)) (left h.middle (ltb 1 (length text)) t))

      module _ (none : null_somewhere h (length text) ≡ false) where
        no_null : (a : Bool) (j : ℕ) → eqb j 0 ≡ a → j < length text → null_at h a false ≡ false
        no_null true j e l = (or_neither h.head h.tail (or_neither (h.head || h.tail) (h.middle && ltb 1 (length text)) none).0).0
        no_null false j e l =
            let z : j ≡ 0 → ⊥ = λ q. absurd (true≢false (sym (eq-eqb j 0 q) ∙ e)) in
            let two : 1 < length text = omega arith in
            and_left h.middle (ltb 1 (length text)) (lt-ltb 1 (length text) two) (or_neither (h.head || h.tail) (h.middle && ltb 1 (length text)) none).1
          where
            and_left : (a b : Bool) → b ≡ true → (a && b) ≡ false → a ≡ false
            and_left true b p q = absurd (true≢false (sym p ∙ q))
            and_left false b p q = refl

        no_end : null_at h (eqb (length text) 0) true ≡ false
        no_end =
            ap (λ (a : Bool). null_at h a true) (ne_eqb (length text) 0 some)
            ∙ (or_neither h.head h.tail (or_neither (h.head || h.tail) (h.middle && ltb 1 (length text)) none).0).1

        untested : (j live : ℕ) → j < length text → bit_and (first_mask h (eqb j 0)) live ≡ 0 → tested h sets before text j false live ≡ false
        untested j live l z = ap₂ ◌||◌ (no_null (eqb j 0) j refl l) (ap (λ (n : ℕ). not (eqb n 0)) z)

        -- ---- no part can begin

        without : Shut h sets (get_or text 0 0) → Found M text false
        without s = record { yes = λ e. absurd (true≢false (sym e)); no = λ e. record { within = omega arith; before = λ j l m v. at j m (ltb j (length text)) refl v; found = λ l. absurd (omega arith) } }
          where
            first_byte : (p : ℕ) (l : List ℕ) → T (bit h.start p) → Live M p (get_or text 0 0 ∷ l) → ⊥
            first_byte p l t (live_end m z) = s.not_start p t (met_has h.size sets p (get_or text 0 0) m)
            first_byte p l t (live_on m f v) = s.not_start p t (met_has h.size sets p (get_or text 0 0) m)

            begun_at : (j : ℕ) → j < length text → (a : Bool) → eqb j 0 ≡ a → Starts M a (get_or text j 0 ∷ drop (j + 1) text) → ⊥
            begun_at j l a e (starts_none u) = not_T_of (no_null a j e l) u
            begun_at j l true e (starts_live {p = p} f v) =
                let z : j ≡ 0 = eqb-true j 0 e in
                first_byte p (drop (j + 1) text) f (subst (λ (k : ℕ). Live M p (get_or text k 0 ∷ drop (j + 1) text)) z v)
            begun_at j l false e (starts_live {p = p} f v) = not_T_of (ap (λ (n : ℕ). bit n p) s.not_inner ∙ bit_zero p) f

            begun_end : Starts M (eqb (length text) 0) [] → ⊥
            begun_end (starts_none u) = not_T_of no_end u
            begun_end (starts_live f v) = dead v

            at : (j : ℕ) → j ≤ length text → (t : Bool) → ltb j (length text) ≡ t → StartsAt M text j → ⊥
            at j m true u v =
                let l : j < length text = ltb-true j (length text) u in
                begun_at j l (eqb j 0) refl (subst (λ (x : List ℕ). Starts M (eqb j 0) x) (drop_at text j l) v)
            at j m false u v =
                let z : j ≡ length text = let l : length text ≤ j = ltb-false j (length text) u in omega arith in
                begun_end (subst (λ (x : List ℕ). Starts M (eqb (length text) 0) x) (drop-length text) (subst (λ (k : ℕ). StartsAt M text k) z v))

    -- ---- the smallest place

    pub first_at_once : (h.head && ltb 0 (length text)) ≡ true → Leftmost M text 0
    first_at_once e =
        let u : T (h.head && ltb 0 (length text)) = T_of e in
        let l : 0 < length text = ltb-true 0 (length text) (is_true (ltb 0 (length text)) (right h.head (ltb 0 (length text)) u)) in
        record {
          within = omega arith;
          before = λ j k. absurd (omega arith);
          found = λ w. starts_none (subst⁻¹ (λ (x : Bool). T (null_at h true x)) (empty_at text 0 (omega arith) ∙ ne_eqb 0 (length text) (λ z. omega arith)) (left h.head (ltb 0 (length text)) u));
        }

    pub scan_pass : (i next best r : ℕ) → Scan h sets before text i next best → Passed h sets text next i r → Scan h sets before text r next best
    scan_pass i next best r s p = go (ltb r i) refl
      where
        go : (t : Bool) → ltb r i ≡ t → Scan h sets before text r next best
        go true e =
            let l : r < i = ltb-true r i e in
            let up : 0 < r = p.above in
            let low : r + (i - r) ≡ i = omega arith in
            subst⁻¹ (λ (m : ℕ). Scan h sets before text r m best) (p.not_live l)
            (quiet best i r (i - r) low (p.not_last l)
            (λ j a b. ap (λ (t : Bool). null_at h t false) (ne_eqb j 0 (λ z. omega arith)) ∙ p.not_empty l)
            (subst (λ (m : ℕ). Scan h sets before text i m best) (p.not_live l) s) p.unmet)
        go false e =
            let l : i ≤ r = ltb-false r i e in
            let w : r ≤ i = p.within in
            let same : i ≡ r = omega arith in
            subst (λ (m : ℕ). Scan h sets before text m next best) same s

    -- ---- the loop

    module _ (some : length text ≡ 0 → ⊥) (r : Bool) (er : r ≡ null_somewhere h (length text)) (qr : r ≡ false) where
      pub found_shut : Shut h sets (get_or text 0 0) → Found M text false
      found_shut s = without some (sym er ∙ qr) s

      pub shut_nothing : (t : Bool) → (t ≡ true → Shut h sets (get_or text 0 0)) → t ≡ true → Leftmost M text (length text + 1)
      shut_nothing t s e = (found_shut (s e)).no refl

      pub hunt_first : Closed h before → Hunt h sets before text h.ends (length text - 1)
      hunt_first c =
          let e : length text ≡ length text - 1 + 1 = omega (arith, some) in
          record {
            next = 0;
            inside = omega (arith, some);
            scan = subst (λ (k : ℕ). Scan h sets before text k 0 (length text + 1)) e (found_first_miss h sets before text c (tested h sets before text (length text) true 0) refl (ap₂ ◌||◌ (no_end some (sym er ∙ qr)) (ap (λ (n : ℕ). not (eqb n 0)) (and_zero_r (first_mask h (eqb (length text) 0))))));
            known = sym (ap (last_mask h) (eq-eqb (length text - 1 + 1) (length text) (sym e)));
            bare = sym er ∙ qr;
          }

    pub hunt_below : (candidates i : ℕ) → Hunt h sets before text candidates i → Below 60 candidates
    hunt_below candidates i s =
        subst⁻¹ (λ (n : ℕ). Below 60 n) s.known (scan_below h sets before text (i + 1) s.next (length text + 1) (last_mask h (eqb (i + 1) (length text))) s.scan refl)

    -- of the candidates for the first byte, those that may begin a part
    pub first_below : (candidates i : ℕ) → Hunt h sets before text candidates i → Below 60 (bit_and h.start candidates)
    first_below candidates i s k past =
        bit_of_and h.start candidates k ∙ ap (λ (t : Bool). bit h.start k && t) (hunt_below candidates i s k past) ∙ and-false (bit h.start k)

    -- the byte at i is read
    module _ (candidates i : ℕ) (s : Hunt h sets before text candidates i) (live next : ℕ) (w : Stepped sets before candidates (get_or text i 0) 0 live next) where
      some : length text ≡ 0 → ⊥
      some z = let l : i < length text = s.inside in absurd (omega arith)

      stepped : Stepped sets before (bit_or s.next (last_mask h (eqb (i + 1) (length text)))) (get_or text i 0) 0 live next
      stepped = subst (λ (n : ℕ). Stepped sets before n (get_or text i 0) 0 live next) s.known w

      begins_at : (bit_and (first_mask h (eqb i 0)) live ≡ 0 → ⊥) → Found M text true
      begins_at n =
          found_hit h sets before text (i + 1) i s.next (last_mask h (eqb (i + 1) (length text))) live next refl s.scan refl stepped (tested h sets before text i false live) refl
          (is_true (tested h sets before text i false live) (or_right (null_at h (eqb i 0) false) (not (eqb (bit_and (first_mask h (eqb i 0)) live) 0)) (T_of (ap not (ne_eqb (bit_and (first_mask h (eqb i 0)) live) 0 n)))))

      read_on : bit_and (first_mask h (eqb i 0)) live ≡ 0 → Scan h sets before text i next (length text + 1)
      read_on z =
          found_miss h sets before text (i + 1) i s.next (last_mask h (eqb (i + 1) (length text))) live next refl s.scan refl stepped (tested h sets before text i false live) refl (untested some s.bare i live s.inside z)

      module _ (up : 0 < i) where
        not_start : first_mask h (eqb i 0) ≡ h.inner
        not_start = ap (first_mask h) (ne_eqb i 0 (λ z. omega arith))

        pub hunt_hit : (bit_and h.inner live ≡ 0 → ⊥) → Found M text true
        hunt_hit n = begins_at (λ z. n (sym (ap (λ (m : ℕ). bit_and m live) not_start) ∙ z))

        module _ (z : bit_and h.inner live ≡ 0) where
          scan_here : Scan h sets before text i next (length text + 1)
          scan_here = read_on (ap (λ (m : ℕ). bit_and m live) not_start ∙ z)

          bare_below : Bare 0 i
          bare_below j a b = no_null some s.bare (eqb j 0) j refl (let l : i < length text = s.inside in omega arith)

          pub hunt_next : Hunt h sets before text (bit_or next h.stops) (i - 1)
          hunt_next =
              let e : i ≡ i - 1 + 1 = omega arith in
              let l : i < length text = s.inside in
              record {
                next = next;
                inside = omega arith;
                scan = subst (λ (k : ℕ). Scan h sets before text k next (length text + 1)) e scan_here;
                known = ap (bit_or next) (sym (ap (last_mask h) (ne_eqb (i - 1 + 1) (length text) (λ q. omega arith))));
                bare = s.bare;
              }

          -- no position may stand before a live one, and none may end a part further down
          pub hunt_dead : bit_or next h.stops ≡ 0 → Found M text false
          hunt_dead e =
              found_none h sets before text 0 0 zero-le
              (quiet (length text + 1) i 0 i (omega arith) s.inside bare_below (subst (λ (m : ℕ). Scan h sets before text i m (length text + 1)) (or_none_left next h.stops e) scan_here)
              (λ j a b q t. absurd (not_T_of (ap (λ (m : ℕ). bit m q) (or_none_right next h.stops e) ∙ bit_zero q) t)))

          -- no position may stand before a live one, and the one that may end a part meets no byte above r
          pub hunt_skip : next ≡ 0 → (door r : ℕ) → Only h.stops (Some door) → LastMet (get_or sets door []) text (i - 1) r → Hunt h sets before text (bit_or next h.stops) r
          hunt_skip e door r one m =
              let w : r ≤ i - 1 = m.within in
              let l : i < length text = s.inside in
              let low : r + 1 + (i - (r + 1)) ≡ i = omega arith in
              record {
                next = next;
                inside = omega arith;
                scan = subst⁻¹ (λ (n : ℕ). Scan h sets before text (r + 1) n (length text + 1)) e (quiet (length text + 1) i (r + 1) (i - (r + 1)) low l (λ j a b. bare_below j zero-le b) (subst (λ (n : ℕ). Scan h sets before text i n (length text + 1)) e scan_here) (unmet h sets text door (r + 1) i one.1 (λ j a b. m.none j (omega arith) (omega arith))));
                known = ap (bit_or next) (sym (ap (last_mask h) (ne_eqb (r + 1) (length text) (λ q. omega arith))));
                bare = s.bare;
              }

    -- the first byte is left
    module _ (candidates : ℕ) (s : Hunt h sets before text candidates 0) (r : Bool) (w : SomeMet sets (bit_and h.start candidates) (get_or text 0 0) r) where
      stop : ℕ
      stop = last_mask h (eqb 1 (length text))

      stop_is : stop ≡ last_mask h (empty (drop 1 text))
      unfolding stop
      stop_is = ap (last_mask h) (sym (empty_at text 1 s.scan.inside))

      candidates_are : candidates ≡ bit_or s.next stop
      unfolding stop
      candidates_are = s.known

      here : drop 0 text ≡ get_or text 0 0 ∷ drop 1 text
      here = drop_at text 0 s.inside

      begins_first : (p : ℕ) → T (bit (bit_and h.start candidates) p) → T (has sets p (get_or text 0 0)) → StartsAt M text 0
      begins_first p t m =
          let c : T (bit h.start p && bit candidates p) = subst T (bit_of_and h.start candidates p) t in
          let first : T (bit h.start p) = left (bit h.start p) (bit candidates p) c in
          subst⁻¹ (λ (l : List ℕ). Starts M true l) here
          (starts_live first
          (candidate_live h sets before (get_or text 0 0) s.scan.live s.next stop (drop 1 text) s.scan.bits stop_is p
          (subst (λ (n : ℕ). T (bit n p)) candidates_are (right (bit h.start p) (bit candidates p) c)) (has_met h.size sets p (get_or text 0 0) (bit_inside h.size h.start p (s.scan.closed.starts true) first) m)))

      not_first : r ≡ false → Starts M true (get_or text 0 0 ∷ drop 1 text) → ⊥
      not_first e (starts_none u) = not_T_of (no_null (λ z. let l : 0 < length text = s.inside in absurd (omega arith)) s.bare true 0 refl s.inside) u
      not_first e (starts_live {p = p} f v) =
          let c = live_candidate h sets before (get_or text 0 0) s.scan.live s.next stop (drop 1 text) s.scan.bits stop_is p v in
          w.no e p
          (subst⁻¹ T (bit_of_and h.start candidates p) (both (bit h.start p) (bit candidates p) f (subst⁻¹ (λ (n : ℕ). T (bit n p)) candidates_are c.0))) (met_has h.size sets p (get_or text 0 0) c.1)

      first_byte : Found M text r
      first_byte = go r refl
        where
          go : (t : Bool) → r ≡ t → Found M text t
          go true e = let y = w.yes e in found_yes 0 (omega arith) (begins_first y.0 y.1 y.2)
          go false e = found_neither h sets before text s.next s.scan (λ v. not_first e (subst (λ (l : List ℕ). Starts M true l) here v))

    pub hunt_last : (candidates i : ℕ) → i ≤ 0 → Hunt h sets before text candidates i → (r : Bool) → SomeMet sets (bit_and h.start candidates) (get_or text 0 0) r
        → Found M text r
    hunt_last candidates i z s r w =
        let e : i ≡ 0 = omega arith in
        first_byte candidates (subst (λ (k : ℕ). Hunt h sets before text candidates k) e s) r w
