-- The lines of a body by place: where each ends, and the list of those that are fields.
use mathlib.Core.Bool.{Bool, true, false, ◌&&◌, and-false}
use mathlib.Core.Path.{◌≡◌, refl, sym, ap, ◌∙◌, subst}
use mathlib.Core.List.{List, [], ◌∷◌, ◌++◌}
use Prim.Native.Nat.{ℕ, zero, suc, ◌+◌, ◌-◌, ◌≤◌, ◌<◌}
use native.Mathlib.Omega.{arith}
use native.Mathlib.Decide.{dec_le}
use lib.ListN.{length, get_or, take, drop, length-drop}
use lib.Dec.{ltb, eqb}
use lib.Seq.{drop-drop, get_or-drop, get_or-take, take_all, take-take, take-length, length-take-le}
use borrow.Author.Tests.{le-leb, lt-leb, lt-ltb, le-ltb, eq-eqb, ne_eqb, eqb-true, eqb-false}
use Rattle.octets.specs.Lists.{pick, empty}
use Rattle.octets.proofs.Tests.{test_cases}
use Rattle.cuts.specs.Cutting.{begins, cut_at, first_line}
use Rattle.cuts.specs.Inner.Parts.{part}
use Rattle.cuts.specs.Inner.Searching.{first}
use Rattle.cuts.proofs.Cuts.{cut_on, cut_last, nonempty}
use Rattle.cuts.proofs.Parts.{length_part, drop_take, front_by, front_le}
use Rattle.cuts.proofs.Search.{first_le}
use Rattle.cuts.proofs.From as F
use Rattle.contents.specs.Body.{Line, drop_cr, ended, line, lines, session_lines}
use Rattle.contents.specs.Inner.Places.{line_places, body_line, session_from}
use Rattle.contents.specs.Inner.Steps.{ended_line}
use Rattle.contents.specs.declared.BodyLine.{BodyLine}
use Rattle.contents.specs.declared.BodyLine.TheVariants.{Typed, Other, Done}

-- ---- the CR before an LF

cr_goes : (l : List ℕ) (n : ℕ) → length l ≡ suc n → get_or l n 0 ≡ 13 → drop_cr l ≡ take n l
unfolding drop_cr
cr_goes [] n long h = absurd (omega arith)
cr_goes (b ∷ []) zero long h = ap (λ (t : Bool). pick (t && true) [] (b ∷ [])) (eq-eqb b 13 h)
cr_goes (b ∷ []) (suc n) long h = absurd (omega arith)
cr_goes (b ∷ c ∷ s) zero long h = absurd (omega arith)
cr_goes (b ∷ c ∷ s) (suc n) long h =
    ap (λ (t : Bool). pick t [] (b ∷ drop_cr (c ∷ s))) (and-false (eqb b 13)) ∙ ap (λ (l : List ℕ). b ∷ l) (cr_goes (c ∷ s) n (omega arith) h)

no_cr_stays : (l : List ℕ) (n : ℕ) → length l ≡ suc n → (get_or l n 0 ≡ 13 → ⊥) → drop_cr l ≡ l
unfolding drop_cr
no_cr_stays [] n long h = absurd (omega arith)
no_cr_stays (b ∷ []) zero long h = ap (λ (t : Bool). pick (t && true) [] (b ∷ [])) (ne_eqb b 13 h)
no_cr_stays (b ∷ []) (suc n) long h = absurd (omega arith)
no_cr_stays (b ∷ c ∷ s) zero long h = absurd (omega arith)
no_cr_stays (b ∷ c ∷ s) (suc n) long h =
    ap (λ (t : Bool). pick t [] (b ∷ drop_cr (c ∷ s))) (and-false (eqb b 13)) ∙ ap (λ (l : List ℕ). b ∷ l) (no_cr_stays (c ∷ s) n (omega arith) h)

-- the line from a place to k, of which the code looks at the last byte
module _ (b : List ℕ) (from k : ℕ) (pre : (from ≤ k) × (k ≤ length b)) where
  abbrev l : List ℕ
  l = part b from k

  long : length l ≡ k - from
  long = length_part b from k pre.0 pre.1

  abbrev stop : ℕ
  stop = from + length (ended_line (ltb k (length b)) l)

  pub stop_end : length b ≤ k → k ≡ stop
  stop_end h = sym (ap (λ (t : Bool). from + length (ended_line t l)) (le-ltb k (length b) h) ∙ omega (arith, long, pre.0))

  module _ (more : k < length b) where
    by_lf : stop ≡ from + length (drop_cr l)
    by_lf = ap (λ (t : Bool). from + length (ended_line t l)) (lt-ltb k (length b) more)

    none_empty : (x : List ℕ) → length x ≡ 0 → length (drop_cr x) ≡ 0
    unfolding drop_cr
    none_empty [] e = refl
    none_empty (y ∷ x) e = absurd (omega arith)

    pub stop_empty : k ≤ from → k ≡ stop
    stop_empty h = sym (by_lf ∙ omega (arith, none_empty l (omega (arith, long)), pre.0))

    module _ (some_byte : from < k) where
      n_is : length l ≡ suc (k - 1 - from)
      n_is = omega (arith, long)

      last_is : get_or l (k - 1 - from) 0 ≡ get_or b (k - 1) 0
      last_is =
          let e : from + (k - 1 - from) ≡ k - 1 = omega arith in
          get_or-take (k - from) (drop from b) (k - 1 - from) 0 (omega arith) ∙ get_or-drop from b (k - 1 - from) 0 ∙ ap (λ (j : ℕ). get_or b j 0) e

      pub stop_cr : get_or b (k - 1) 0 ≡ 13 → k - 1 ≡ stop
      stop_cr h =
          let n = k - 1 - from in
          let short : length (drop_cr l) ≡ n = ap length (cr_goes l n n_is (last_is ∙ h)) ∙ length-take-le n l (omega (arith, long)) in
          sym (by_lf ∙ omega (arith, short))

      pub stop_text : (get_or b (k - 1) 0 ≡ 13 → ⊥) → k ≡ stop
      stop_text h = sym (by_lf ∙ omega (arith, ap length (no_cr_stays l (k - 1 - from) n_is (λ e. h (sym last_is ∙ e))), long))

-- ---- the line at a place

cr_front : (s : List ℕ) → drop_cr s ≡ take (length (drop_cr s)) s
unfolding drop_cr
cr_front [] = refl
cr_front (b ∷ s) = front_by b s (drop_cr s) (eqb b 13 && empty s) (cr_front s)

ended_front : (t : Bool) (s : List ℕ) → ended_line t s ≡ take (length (ended_line t s)) s
ended_front true s = cr_front s
ended_front false s = sym (take-length s)

ended_le : (t : Bool) (s : List ℕ) → length (ended_line t s) ≤ length s
ended_le t s = front_le (ended_line t s) s (ended_front t s)

ended_more : (s : List ℕ) (ls : List (List ℕ)) → (ls ≡ [] → ⊥) → ended (s ∷ ls) ≡ drop_cr s ∷ ended ls
unfolding ended
ended_more s [] h = absurd (h refl)
ended_more s (m ∷ ls) h = refl

-- what `line` says of a line by its length and its second byte
module _ (p next : ℕ) where
  places_short : (s : List ℕ) → length s < 2 → line_places p s next ≡ Other next
  places_short [] h = refl
  places_short (t ∷ []) h = refl
  places_short (t ∷ e ∷ v) h = absurd (omega arith)

  places_other : (s : List ℕ) → 2 ≤ length s → (get_or s 1 0 ≡ 61 → ⊥) → line_places p s next ≡ Other next
  places_other [] h n = absurd (omega arith)
  places_other (t ∷ []) h n = absurd (omega arith)
  places_other (t ∷ e ∷ v) h n = ap (λ (x : Bool). pick x (Typed p (p + 2) (p + 2 + length v) next) (Other next)) (ne_eqb e 61 n)

  places_typed : (s : List ℕ) → 2 ≤ length s → get_or s 1 0 ≡ 61 → line_places p s next ≡ Typed p (p + 2) (p + length s) next
  places_typed [] h y = absurd (omega arith)
  places_typed (t ∷ []) h y = absurd (omega arith)
  places_typed (t ∷ e ∷ v) h y =
      let long : p + 2 + length v ≡ p + suc (suc (length v)) = omega arith in
      ap (λ (x : Bool). pick x (Typed p (p + 2) (p + 2 + length v) next) (Other next)) (eq-eqb e 61 y) ∙ ap (λ (k : ℕ). Typed p (p + 2) k next) long

line_short : (s : List ℕ) → length s < 2 → line s ≡ []
line_short [] h = refl
line_short (t ∷ []) h = refl
line_short (t ∷ e ∷ v) h = absurd (omega arith)

line_other : (s : List ℕ) → (get_or s 1 0 ≡ 61 → ⊥) → line s ≡ []
line_other [] n = refl
line_other (t ∷ []) n = refl
line_other (t ∷ e ∷ v) n = ap (λ (x : Bool). pick x (record { type = t ∷ []; value = v } ∷ []) []) (ne_eqb e 61 n)

line_typed : (s : List ℕ) → 2 ≤ length s → get_or s 1 0 ≡ 61 → line s ≡ record { type = take 1 s; value = drop 2 s } ∷ []
line_typed [] h y = absurd (omega arith)
line_typed (t ∷ []) h y = absurd (omega arith)
line_typed (t ∷ e ∷ v) h y = ap (λ (x : Bool). pick x (record { type = t ∷ []; value = v } ∷ []) []) (eq-eqb e 61 y)

pub line_past : (b : List ℕ) (p : ℕ) → length b < p → Done ≡ body_line b p
unfolding body_line
line_past b p h =
    sym (ap (λ (t : Bool). pick t (line_places p (first_line (ended (cut_at 10 (drop p b)))) (p + length (first_line (cut_at 10 (drop p b))) + 1)) Done) (lt-leb p (length b) h))

-- the lines that are fields of all from a place on
abbrev session : List ℕ → List Line
session r = lines (ended (cut_at 10 r))

pub session_past : (b : List ℕ) (p : ℕ) → length b < p → session_from b p ≡ []
unfolding session_from
session_past = F.from_past session

pub session_start : (b : List ℕ) → session_lines b ≡ session_from b 0
unfolding session_lines session_from
session_start b = sym (F.from_start session b)

-- it runs to the next LF at k, or to the end
module _ (b : List ℕ) (p : ℕ) (inside : p ≤ length b) (k : ℕ) (k_is : k ≡ p + first (begins (10 ∷ [])) (drop p b)) where
  pub lf_order : p ≤ k
  lf_order = omega (arith, k_is)

  pub lf_inside : k ≤ length b
  lf_inside = omega (arith, k_is, first_le (begins (10 ∷ [])) (drop p b), length-drop p b)

  abbrev r : List ℕ
  r = drop p b

  abbrev lf : ℕ
  lf = first (begins (10 ∷ [])) r

  lf_is : lf ≡ k - p
  lf_is = omega (arith, k_is)

  abbrev whole : List ℕ
  whole = part b p k

  abbrev clean : List ℕ
  clean = ended_line (ltb k (length b)) whole

  -- the lines from p on: this one, and those past its end
  record Cut : Type 0 where
    rest : List (List ℕ)
    lines_are : cut_at 10 r ≡ whole ∷ rest
    ended_are : ended (cut_at 10 r) ≡ clean ∷ ended rest
    rest_is : lines (ended rest) ≡ session_from b (k + 1)

  cut_more : k < length b → Cut
  unfolding session_from
  cut_more more =
      let on : drop (lf + 1) r ≡ drop (k + 1) b = drop-drop (lf + 1) p b ∙ (let e : p + (lf + 1) ≡ k + 1 = omega (arith, k_is) in ap (λ (j : ℕ). drop j b) e) in
      let cut : cut_at 10 r ≡ whole ∷ cut_at 10 (drop (k + 1) b) =
      cut_on 10 r (omega (arith, k_is, length-drop p b)) ∙ (λ i. take (lf_is i) r ∷ cut_at 10 (on i))
      in
      record {
        rest = cut_at 10 (drop (k + 1) b);
        lines_are = cut;
        ended_are =
            ap ended cut ∙ ended_more whole (cut_at 10 (drop (k + 1) b)) (nonempty 10 (drop (k + 1) b))
            ∙ ap (λ (t : Bool). ended_line t whole ∷ ended (cut_at 10 (drop (k + 1) b))) (sym (lt-ltb k (length b) more));
        rest_is = sym (F.from_here session b (k + 1) (omega arith));
      }

  cut_end : length b ≤ k → Cut
  unfolding ended
  cut_end past =
      let all : r ≡ whole = sym (take_all (k - p) r (omega (arith, length-drop p b))) in
      let cut : cut_at 10 r ≡ whole ∷ [] = cut_last 10 r (omega (arith, k_is, length-drop p b)) ∙ ap (λ (s : List ℕ). s ∷ []) all in
      record {
        rest = [];
        lines_are = cut;
        ended_are = ap ended cut ∙ ap (λ (t : Bool). ended_line t whole ∷ []) (sym (le-ltb k (length b) past));
        rest_is = sym (session_past b (k + 1) (omega (arith, past)));
      }

  cut_here : Cut
  cut_here = elim (dec_le (length b) k) [ yes h ↦ cut_end h | no h ↦ cut_more (omega (arith, h)) ]

  long_whole : length whole ≡ k - p
  long_whole = length_part b p k lf_order lf_inside

  line_is : body_line b p ≡ line_places p clean (k + 1)
  unfolding body_line
  line_is =
      let next : p + length whole + 1 ≡ k + 1 = omega (arith, long_whole, lf_order) in
      ap (λ (t : Bool). pick t (line_places p (first_line (ended (cut_at 10 r))) (p + length (first_line (cut_at 10 r)) + 1)) Done) (le-leb p (length b) inside)
      ∙ (λ i. line_places p (first_line (cut_here.ended_are i)) (p + length (first_line (cut_here.lines_are i)) + 1))
      ∙ ap (line_places p clean) next

  session_is : session_from b p ≡ line clean ++ session_from b (k + 1)
  unfolding session_from
  session_is =
      F.from_here session b p inside ∙ ap lines cut_here.ended_are ∙ ap (λ (ls : List Line). line clean ++ ls) cut_here.rest_is

  clean_le : length clean ≤ k - p
  clean_le = omega (arith, ended_le (ltb k (length b)) whole, long_whole)

  clean_front : clean ≡ take (length clean) r
  clean_front = ended_front (ltb k (length b)) whole ∙ take-take (length clean) (k - p) r clean_le

  module _ (e : ℕ) (e_is : e ≡ p + length (ended_line (ltb k (length b)) (part b p k))) where
    second : 2 ≤ length clean → get_or clean 1 0 ≡ get_or b (p + 1) 0
    second h = ap (λ (s : List ℕ). get_or s 1 0) clean_front ∙ get_or-take (length clean) r 1 0 (omega arith) ∙ get_or-drop p b 1 0

    pub second_inside : p + 2 ≤ e → p + 1 < length b
    second_inside h = omega (arith, e_is, clean_le, lf_inside, lf_order)

    pub next_short : e < p + 2 → Other (k + 1) ≡ body_line b p
    next_short h = sym (line_is ∙ places_short p (k + 1) clean (omega (arith, e_is)))

    pub next_other : p + 2 ≤ e → (get_or b (p + 1) 0 ≡ 61 → ⊥) → Other (k + 1) ≡ body_line b p
    next_other h n = let long : 2 ≤ length clean = omega (arith, e_is) in sym (line_is ∙ places_other p (k + 1) clean long (λ y. n (sym (second long) ∙ y)))

    pub next_typed : p + 2 ≤ e → get_or b (p + 1) 0 ≡ 61 → Typed p (p + 2) e (k + 1) ≡ body_line b p
    next_typed h y =
        let long : 2 ≤ length clean = omega (arith, e_is) in
        sym (line_is ∙ places_typed p (k + 1) clean long (second long ∙ y) ∙ ap (λ (j : ℕ). Typed p (p + 2) j (k + 1)) (sym e_is))

    typed_is : p + 2 ≤ e → get_or b (p + 1) 0 ≡ 61 → session_from b p ≡ record { type = part b p (p + 1); value = part b (p + 2) e } ∷ session_from b (k + 1)
    typed_is h y =
        let long : 2 ≤ length clean = omega (arith, e_is) in
        let one : p + 1 - p ≡ 1 = omega arith in
        let n : length clean - 2 ≡ e - (p + 2) = omega (arith, e_is) in
        let type_is : take 1 clean ≡ part b p (p + 1) = ap (take 1) clean_front ∙ take-take 1 (length clean) r (omega arith) ∙ ap (λ (j : ℕ). take j r) (sym one) in
        let value_is : drop 2 clean ≡ part b (p + 2) e = ap (drop 2) clean_front ∙ drop_take 2 (length clean) r ∙ (λ i. take (n i) (drop-drop 2 p b i)) in
        session_is ∙ ap (λ (ls : List Line). ls ++ session_from b (k + 1)) (line_typed clean long (second long ∙ y))
        ∙ (λ i. record { type = type_is i; value = value_is i } ∷ session_from b (k + 1))

    other_is : (p + 2 ≤ e → get_or b (p + 1) 0 ≡ 61 → ⊥) → session_from b p ≡ session_from b (k + 1)
    other_is n =
        let nothing : line clean ≡ [] =
        elim (dec_le 2 (length clean)) [
          | yes long ↦ line_other clean (λ y. n (omega (arith, e_is, long)) (sym (second long) ∙ y))
          | no short ↦ line_short clean (omega (arith, short))
        ]
        in
        session_is ∙ ap (λ (ls : List Line). ls ++ session_from b (k + 1)) nothing

-- ---- for callers: every line that is a field, once and in order

-- what an answer of `next_line` says of the lines from p on
pub record TypedAt (b : List ℕ) (p start value end next : ℕ) : Type 0 where
  pub list : session_from b p ≡ record { type = part b start (start + 1); value = part b value end } ∷ session_from b next
  pub type_inside : start < length b
  pub value_order : value ≤ end
  pub value_inside : end ≤ length b
  pub on : p < next
  pub next_inside : next ≤ length b + 1

pub record OtherAt (b : List ℕ) (p next : ℕ) : Type 0 where
  pub list : session_from b p ≡ session_from b next
  pub on : p < next
  pub next_inside : next ≤ length b + 1

abbrev pub LineSays : List ℕ → ℕ → BodyLine → Type 0
LineSays b p (Typed start value end next) = TypedAt b p start value end next
LineSays b p (Other next) = OtherAt b p next
LineSays b p Done = session_from b p ≡ []

pub line_says : (b : List ℕ) (p : ℕ) → LineSays b p (body_line b p)
line_says b p =
    elim (dec_le p (length b)) [
      | no past ↦ let h : length b < p = omega (arith, past) in subst (LineSays b p) (line_past b p h) (session_past b p h)
      | yes inside ↦
          let k = p + first (begins (10 ∷ [])) (drop p b) in
          let e = p + length (ended_line (ltb k (length b)) (part b p k)) in
          let k_le : k ≤ length b = lf_inside b p inside k refl in
          let e_le : e ≤ k = omega (arith, clean_le b p inside k refl, lf_order b p inside k refl) in
          elim (dec_le (p + 2) e) [
            | no short ↦
                let h : e < p + 2 = omega (arith, short) in
                subst (LineSays b p) (next_short b p inside k refl e refl h) (record {
                  list = other_is b p inside k refl e refl (λ l y. short l);
                  on = omega arith;
                  next_inside = omega arith;
                })
            | yes h ↦
                test_cases (eqb (get_or b (p + 1) 0) 61)
                (λ t. let y : get_or b (p + 1) 0 ≡ 61 = eqb-true (get_or b (p + 1) 0) 61 t in
                subst (LineSays b p) (next_typed b p inside k refl e refl h y) (record {
                  list = typed_is b p inside k refl e refl h y;
                  type_inside = omega arith;
                  value_order = h;
                  value_inside = omega arith;
                  on = omega arith;
                  next_inside = omega arith;
                }))
                (λ t. let n : get_or b (p + 1) 0 ≡ 61 → ⊥ = eqb-false (get_or b (p + 1) 0) 61 t in
                subst (LineSays b p) (next_other b p inside k refl e refl h n) (record {
                  list = other_is b p inside k refl e refl (λ l y. n y);
                  on = omega arith;
                  next_inside = omega arith;
                }))
          ]
    ]
