-- A scan from the end keeps, as bits, the positions that are live before what has been read.
use mathlib.Core.Path.{◌≡◌, refl, sym, ap, ap₂, ◌∙◌, subst, subst⁻¹}
use mathlib.Core.Bool.{Bool, true, false, not, ◌&&◌, ◌||◌, true≢false}
use mathlib.Core.List.{List, [], ◌∷◌}
use Prim.Native.Nat.{ℕ, ◌+◌, ◌<◌, ◌≤◌}
use native.Mathlib.Omega.{arith}
use lib.Bits.{bit_and, bit_or}
use lib.Dec.{T, eqb, ltb}
use lib.ListN.{length, get_or, drop}
use lib.Seq.{drop-length}
use borrow.Author.Tests.{ltb-true, ltb-false, lt-ltb}
use Rattle.octets.specs.Bits.{bit}
use Rattle.octets.specs.Inner.Masks.{Below}
use Rattle.octets.specs.Lists.{pick, empty}
use Rattle.octets.proofs.Bits.{bit_zero, bit_of_or, bit_inside, below_wider, common, share}
use Rattle.octets.proofs.Tests.{T_of, not_T_of, is_true, both, left, right, or_left, or_right, or_cases}
use Rattle.machine.specs.Inner.Machine.{Machine, Live, live_end, live_on, Starts, starts_none, starts_live, StartsAt, Leftmost, Found, first_mask, last_mask, null_at, has, met, machine_of, Closed, Stepped}
use Rattle.machine.specs.declared.Shape.{Shape}
use Rattle.machine.proofs.Places.{drop_at, empty_at}

-- nothing is live before the end
live_cons : {M : Machine} {p : ℕ} {l : List ℕ} → Live M p l → T (not (empty l))
live_cons (live_end m z) = tt
live_cons (live_on m f v) = tt

pub dead : {M : Machine} {p : ℕ} → Live M p [] → ⊥
dead v = live_cons v

-- ---- a position that meets a byte, and its set

module _ (size : ℕ) (sets : List (List ℕ)) (p b : ℕ) where
  met_position : T (met size sets b p) → T (ltb p size)
  unfolding met
  met_position m = left (ltb p size) (has sets p b) m

  pub met_has : T (met size sets b p) → T (has sets p b)
  unfolding met
  met_has m = right (ltb p size) (has sets p b) m

  pub has_met : p < size → T (has sets p b) → T (met size sets b p)
  unfolding met
  has_met l m = both (ltb p size) (has sets p b) (T_of (lt-ltb p size l)) m

module _ (h : Shape) (sets : List (List ℕ)) (before : List ℕ) where
  abbrev mach : Machine
  mach = machine_of h sets before

  -- `live` are the positions that are live before l, `next` those that may stand before one of them
  pub record Scanned (live next : ℕ) (l : List ℕ) : Type 0 where
    pub sound : (p : ℕ) → T (bit live p) → Live mach p l
    pub complete : (p : ℕ) → Live mach p l → T (bit live p)
    pub back : (p : ℕ) → T (bit next p) → (q : ℕ) × T (bit live q) × T (bit (get_or before q 0) p)
    pub forth : (p q : ℕ) → T (bit live q) → T (bit (get_or before q 0) p) → T (bit next p)

  scan_none : Scanned 0 0 []
  scan_none =
      record {
        sound = λ p t. absurd (not_T_of (bit_zero p) t);
        complete = λ p v. absurd (dead v);
        back = λ p t. absurd (not_T_of (bit_zero p) t);
        forth = λ p q t u. absurd (not_T_of (bit_zero q) t);
      }

  -- a live position is one
  live_position : {p : ℕ} {l : List ℕ} → Live mach p l → T (ltb p h.size)
  live_position (live_end {p = p} {b = b} m z) = met_position h.size sets p b m
  live_position (live_on {p = p} {b = b} m f v) = met_position h.size sets p b m

  module _ (b live next stop : ℕ) (l : List ℕ) (s : Scanned live next l) (e : stop ≡ last_mask h (empty l)) where
    abbrev meet : ℕ → Bool
    meet p = met h.size sets b p

    -- live before the byte are the candidates that meet it, and no others
    pub candidate_live : (p : ℕ) → T (bit (bit_or next stop) p) → T (meet p) → Live mach p (b ∷ l)
    candidate_live p c m =
        or_cases (bit next p) (bit stop p) (subst T (bit_of_or next stop p) c)
        (λ u. let q = s.back p u in
        let v : Live mach q.0 l = s.sound q.0 q.1 in
        live_on m (both (ltb q.0 h.size) (bit (get_or before q.0 0) p) (live_position v) q.2) v)
        (λ u. live_end m (subst (λ (n : ℕ). T (bit n p)) e u))

    pub live_candidate : (p : ℕ) → Live mach p (b ∷ l) → T (bit (bit_or next stop) p) × T (meet p)
    live_candidate p (live_end m z) = (subst⁻¹ T (bit_of_or next stop p) (or_right (bit next p) (bit stop p) (subst⁻¹ (λ (n : ℕ). T (bit n p)) e z)), m)
    live_candidate p (live_on {q = q} m f v) =
        (subst⁻¹ T (bit_of_or next stop p) (or_left (bit next p) (bit stop p) (s.forth p q (s.complete q v) (right (ltb q h.size) (bit (get_or before q 0) p) f))), m)

    -- a candidate is a position
    candidates_below : Closed h before → Below h.size (bit_or next stop)
    candidates_below c k past = bit_of_or next stop k ∙ ap₂ ◌||◌ (go (bit next k) refl) (ap (λ (n : ℕ). bit n k) e ∙ c.lasts (empty l) k past)
      where
        go : (t : Bool) → bit next k ≡ t → bit next k ≡ false
        go true f =
            let q = s.back k (T_of f) in
            let own : q.0 < h.size = ltb-true q.0 h.size (is_true (ltb q.0 h.size) (live_position (s.sound q.0 q.1))) in
            absurd (not_T_of (c.befores q.0 own k past) q.2)
        go false f = f

    module _ (c : Closed h before) (live' next' : ℕ) (r : Stepped sets before (bit_or next stop) b 0 live' next') where
      abbrev candidate : ℕ → Bool
      candidate p = bit (bit_or next stop) p

      abbrev inside : ℕ → Bool
      inside p = has sets p b

      kept_is : (p : ℕ) → bit live' p ≡ (candidate p && true && inside p)
      kept_is p = r.kept p ∙ ap (λ (t : Bool). candidate p && not t && inside p) (bit_zero p)

      scan_more : Scanned live' next' (b ∷ l)
      scan_more = record { sound = sound_at; complete = complete_at; back = r.back; forth = r.forth }
        where
          sound_at : (p : ℕ) → T (bit live' p) → Live mach p (b ∷ l)
          sound_at p t =
              let k : T (candidate p && true && inside p) = subst T (kept_is p) t in
              let u : T (candidate p) = left (candidate p) true (left (candidate p && true) (inside p) k) in
              candidate_live p u (has_met h.size sets p b (bit_inside h.size (bit_or next stop) p (candidates_below c) u) (right (candidate p && true) (inside p) k))

          complete_at : (p : ℕ) → Live mach p (b ∷ l) → T (bit live' p)
          complete_at p v =
              let k = live_candidate p v in
              subst⁻¹ T (kept_is p) (both (candidate p && true) (inside p) (both (candidate p) true k.0 tt) (met_has h.size sets p b k.1))

  -- whether a part begins here, as code tests it
  abbrev test : Bool → Bool → ℕ → Bool
  test a e live = null_at h a e || not (eqb (bit_and (first_mask h a) live) 0)

  begun : (a : Bool) (live next : ℕ) (l : List ℕ) → Scanned live next l → T (test a (empty l) live) → Starts mach a l
  begun a live next l s t =
      or_cases (null_at h a (empty l)) (not (eqb (bit_and (first_mask h a) live) 0)) t
      (λ u. starts_none u)
      (λ u. let c = common (first_mask h a) live u in starts_live c.1 (s.sound c.0 c.2))

  begun' : (a : Bool) (live next : ℕ) (l : List ℕ) → Scanned live next l → Starts mach a l → T (test a (empty l) live)
  begun' a live next l s (starts_none u) = or_left (null_at h a (empty l)) (not (eqb (bit_and (first_mask h a) live) 0)) u
  begun' a live next l s (starts_live {p = p} f v) =
      or_right (null_at h a (empty l)) (not (eqb (bit_and (first_mask h a) live) 0)) (share (first_mask h a) live p f (s.complete p v))

-- ---- the smallest place from i on

pub record From (M : Machine) (s : List ℕ) (i r : ℕ) : Type 0 where
  pub within : r ≤ length s + 1
  pub above : i ≤ r
  pub before : (j : ℕ) → i ≤ j → j < r → j ≤ length s → StartsAt M s j → ⊥
  pub found : r ≤ length s → StartsAt M s r

from_hit : (M : Machine) (s : List ℕ) (i : ℕ) → i ≤ length s → StartsAt M s i → From M s i i
from_hit M s i h v =
    record { within = omega arith; above = omega arith; before = λ k g l w. absurd (omega arith); found = λ w. v }

from_miss : (M : Machine) (s : List ℕ) (i j r : ℕ) → i ≡ j + 1 → From M s i r → (StartsAt M s j → ⊥) → From M s j r
from_miss M s i j r e f v =
    let up : i ≤ r = f.above in
    record {
      within = f.within;
      above = omega arith;
      before = λ k g l w x. at k g l w x (ltb j k) refl;
      found = f.found;
    }
  where
    at : (k : ℕ) → j ≤ k → k < r → k ≤ length s → StartsAt M s k → (t : Bool) → ltb j k ≡ t → ⊥
    at k g l w x true lt = let q : j < k = ltb-true j k lt in f.before k (omega arith) l w x
    at k g l w x false lt =
        let q : k ≤ j = ltb-false j k lt in
        let z : k ≡ j = omega arith in v (subst (λ (m : ℕ). StartsAt M s m) z x)

from_past : (M : Machine) (s : List ℕ) → (StartsAt M s (length s) → ⊥) → From M s (length s) (length s + 1)
from_past M s v =
    record {
      within = omega arith;
      above = omega arith;
      before = λ k g l w x. let z : k ≡ length s = omega arith in v (subst (λ (m : ℕ). StartsAt M s m) z x);
      found = λ w. absurd (omega arith);
    }

-- ---- the loop

-- the scan has come down to i, and r is the smallest place from there on
pub record Scan (h : Shape) (sets : List (List ℕ)) (before : List ℕ) (text : List ℕ) (i next r : ℕ) : Type 0 where
  pub closed : Closed h before
  pub live : ℕ
  pub inside : i ≤ length text
  pub bits : Scanned h sets before live next (drop i text)
  pub place : From (machine_of h sets before) text i r

module _ (h : Shape) (sets : List (List ℕ)) (before : List ℕ) (text : List ℕ) where
  abbrev M : Machine
  M = machine_of h sets before

  abbrev pub tested : ℕ → Bool → ℕ → Bool
  tested j e live = test h sets before (eqb j 0) e live

  at_end : Scanned h sets before 0 0 (drop (length text) text)
  at_end = rw (drop-length text) (scan_none h sets before)

  starts_if : (j live next : ℕ) (e : Bool) → empty (drop j text) ≡ e → Scanned h sets before live next (drop j text) → tested j e live ≡ true → StartsAt M text j
  starts_if j live next e z s t = begun h sets before (eqb j 0) live next (drop j text) s (subst⁻¹ (λ (x : Bool). T (tested j x live)) z (T_of t))

  starts_not : (j live next : ℕ) (e : Bool) → empty (drop j text) ≡ e → Scanned h sets before live next (drop j text) → tested j e live ≡ false → StartsAt M text j → ⊥
  starts_not j live next e z s t v =
      not_T_of t (subst (λ (x : Bool). T (tested j x live)) z (begun' h sets before (eqb j 0) live next (drop j text) s v))

  none_left : empty (drop (length text) text) ≡ true
  none_left = rw (drop-length text) refl

  pub scan_end : Closed h before → (r : ℕ) → r ≡ pick (tested (length text) true 0) (length text) (length text + 1) → Scan h sets before text (length text) 0 r
  scan_end c r e = subst⁻¹ (λ (k : ℕ). Scan h sets before text (length text) 0 k) e (go (tested (length text) true 0) refl)
    where
      go : (t : Bool) → tested (length text) true 0 ≡ t → Scan h sets before text (length text) 0 (pick t (length text) (length text + 1))
      go true q =
          record {
            closed = c;
            live = 0;
            inside = omega arith;
            bits = at_end;
            place = from_hit M text (length text) (omega arith) (starts_if (length text) 0 0 true none_left at_end q);
          }
      go false q =
          record { closed = c; live = 0; inside = omega arith; bits = at_end; place = from_past M text (starts_not (length text) 0 0 true none_left at_end q) }

  -- the candidates for the next byte
  pub scan_below : (i next r stop : ℕ) (s : Scan h sets before text i next r) → stop ≡ last_mask h (eqb i (length text)) → Below 60 (bit_or next stop)
  scan_below i next r stop s e =
      below_wider h.size 60 (bit_or next stop) s.closed.few
      (candidates_below h sets before 0 s.live next stop (drop i text) s.bits (e ∙ ap (last_mask h) (sym (empty_at text i s.inside))) s.closed)

  -- from i to j = i - 1
  module _ (i j next r stop live' next' : ℕ) (d : i ≡ j + 1) (s : Scan h sets before text i next r) (e : stop ≡ last_mask h (eqb i (length text)))
      (w : Stepped sets before (bit_or next stop) (get_or text j 0) 0 live' next') where
    in_text : j < length text
    in_text = let k : i ≤ length text = s.inside in omega arith

    here : drop j text ≡ get_or text j 0 ∷ drop i text
    here = drop_at text j in_text ∙ ap (λ (n : ℕ). get_or text j 0 ∷ drop n text) (sym d)

    bits_now : Scanned h sets before live' next' (drop j text)
    bits_now =
        subst⁻¹ (λ (l : List ℕ). Scanned h sets before live' next' l) here
        (scan_more h sets before (get_or text j 0) s.live next stop (drop i text) s.bits
        (e ∙ ap (last_mask h) (sym (empty_at text i s.inside))) s.closed live' next' w)

    some_left : empty (drop j text) ≡ false
    some_left = ap empty here

    pub scan_hit : (t : Bool) → t ≡ tested j false live' → t ≡ true → Scan h sets before text j next' j
    scan_hit t f q =
        let k : j < length text = in_text in
        record {
          closed = s.closed;
          live = live';
          inside = omega arith;
          bits = bits_now;
          place = from_hit M text j (omega arith) (starts_if j live' next' false some_left bits_now (sym f ∙ q));
        }

    pub scan_miss : (t : Bool) → t ≡ tested j false live' → t ≡ false → Scan h sets before text j next' r
    scan_miss t f q =
        let k : j < length text = in_text in
        record {
          closed = s.closed;
          live = live';
          inside = omega arith;
          bits = bits_now;
          place = from_miss M text i j r d s.place (starts_not j live' next' false some_left bits_now (sym f ∙ q));
        }

  pub scan_all : (i next r : ℕ) → i ≤ 0 → Scan h sets before text i next r → Leftmost M text r
  scan_all i next r z s =
      record {
        within = s.place.within;
        before = λ j. s.place.before j (omega arith);
        found = s.place.found;
      }

  -- ---- the scan that ends at the first place

  found_at : (i next r : ℕ) → Scan h sets before text i next r → r ≤ length text → Found M text true
  found_at i next r s l = record { yes = λ e. (r, l, s.place.found l); no = λ e. absurd (true≢false e) }

  module _ (i j next stop live' next' : ℕ) (d : i ≡ j + 1) (s : Scan h sets before text i next (length text + 1)) (e : stop ≡ last_mask h (eqb i (length text)))
      (w : Stepped sets before (bit_or next stop) (get_or text j 0) 0 live' next') where
    pub found_hit : (t : Bool) → t ≡ tested j false live' → t ≡ true → Found M text true
    found_hit t f q =
        let k : i ≤ length text = s.inside in
        found_at j next' j (scan_hit i j next (length text + 1) stop live' next' d s e w t f q) (omega arith)

    pub found_miss : (t : Bool) → t ≡ tested j false live' → t ≡ false → Scan h sets before text j next' (length text + 1)
    found_miss t f q = scan_miss i j next (length text + 1) stop live' next' d s e w t f q

  module _ (c : Closed h before) (t : Bool) (f : t ≡ tested (length text) true 0) where
    pub found_end : t ≡ true → Found M text true
    found_end q = found_at (length text) 0 (length text) (scan_end c (length text) (sym (ap (λ (b : Bool). pick b (length text) (length text + 1)) (sym f ∙ q)))) (omega arith)

    pub found_first_miss : t ≡ false → Scan h sets before text (length text) 0 (length text + 1)
    found_first_miss q = scan_end c (length text + 1) (sym (ap (λ (b : Bool). pick b (length text) (length text + 1)) (sym f ∙ q)))

  -- none begins behind the first byte, nor before it
  pub found_neither : (next : ℕ) → Scan h sets before text 1 next (length text + 1) → (StartsAt M text 0 → ⊥) → Found M text false
  found_neither next s v =
      let f = from_miss M text 1 0 (length text + 1) refl s.place v in
      record { yes = λ e. absurd (true≢false (sym e)); no = λ e. record { within = f.within; before = λ j. f.before j (omega arith); found = f.found } }

  pub found_none : (i next : ℕ) → i ≤ 0 → Scan h sets before text i next (length text + 1) → Found M text false
  found_none i next z s = record { yes = λ e. absurd (true≢false (sym e)); no = λ e. scan_all i next (length text + 1) z s }
