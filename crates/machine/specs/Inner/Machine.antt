-- A machine of at most 60 positions, and where a part of a text that it takes begins. It knows no edition of patterns.
use Rattle.std.specs.Prelude.{◌≡◌, Bool, true, false, not, ◌&&◌, ◌||◌, List, [], ◌∷◌, ℕ, ◌+◌, ◌/◌, ◌%◌, ◌<◌, ◌≤◌, T, eqb, ltb, get_or, drop, length, Option, Some, None}
use Rattle.octets.specs.Bits.{bit}
use Rattle.octets.specs.Inner.Masks.{Below}
use Rattle.octets.specs.Lists.{pick, empty}
use Rattle.machine.specs.declared.Shape.{Shape}

-- ---- the meaning

-- Which positions may begin a part (true: at the text's start), end one (true: at the text's end), come right after another, and
-- meet a byte, and whether the empty part fits.
pub record Machine : Type 0 where
  pub first : Bool → ℕ → Bool
  pub last : Bool → ℕ → Bool
  pub follow : ℕ → ℕ → Bool
  pub meets : ℕ → ℕ → Bool
  pub null : Bool → Bool → Bool

-- p meets the first byte of the text, and from there on a part runs to its end
pub data Live (M : Machine) : ℕ → List ℕ → Type 0 where
  live_end : {p b : ℕ} {s : List ℕ} → T (M.meets p b) → T (M.last (empty s) p) → Live M p (b ∷ s)
  live_on : {p q b : ℕ} {s : List ℕ} → T (M.meets p b) → T (M.follow p q) → Live M q s → Live M p (b ∷ s)

-- a part begins at the front of the text
pub data Starts (M : Machine) (a : Bool) : List ℕ → Type 0 where
  starts_none : {s : List ℕ} → T (M.null a (empty s)) → Starts M a s
  starts_live : {p : ℕ} {s : List ℕ} → T (M.first a p) → Live M p s → Starts M a s

-- a part begins at j
abbrev pub StartsAt : Machine → List ℕ → ℕ → Type 0
StartsAt M s j = Starts M (eqb j 0) (drop j s)

-- every byte of a text is one
abbrev pub Bytes : List ℕ → Type 0
Bytes s = (i : ℕ) → get_or s i 0 < 256

-- r is the smallest place at which a part begins, or one above the length where there is none
pub record Leftmost (M : Machine) (s : List ℕ) (r : ℕ) : Type 0 where
  pub within : r ≤ length s + 1
  pub before : (j : ℕ) → j < r → j ≤ length s → StartsAt M s j → ⊥
  pub found : r ≤ length s → StartsAt M s r

-- whether a part begins somewhere: if so, at some place of the text; if not, the smallest place lies behind it
pub record Found (M : Machine) (s : List ℕ) (r : Bool) : Type 0 where
  pub yes : r ≡ true → (j : ℕ) × (j ≤ length s) × StartsAt M s j
  pub no : r ≡ false → Leftmost M s (length s + 1)

-- ---- the machine that the code holds: masks, a set and a mask of what may stand before it for each position

abbrev pub first_mask : Shape → Bool → ℕ
first_mask h a = pick a h.start h.inner

abbrev pub last_mask : Shape → Bool → ℕ
last_mask h e = pick e h.ends h.stops

abbrev pub null_at : Shape → Bool → Bool → Bool
null_at h a e = pick a (pick e h.whole h.head) (pick e h.tail h.middle)

-- whether the byte b is in the set, which is four words of 64 bits: bit b % 64 of word b / 64
unfoldable pub in_set : List ℕ → ℕ → Bool
in_set set b = bit (get_or set (b / 64) 0) (b % 64)

-- the set of p has the byte b
abbrev pub has : List (List ℕ) → ℕ → ℕ → Bool
has sets p b = in_set (get_or sets p []) b

-- the position p is one, and its set has the byte b
unfoldable pub met : ℕ → List (List ℕ) → ℕ → ℕ → Bool
unfolding in_set
met size sets b p = ltb p size && has sets p b

abbrev pub machine_of : Shape → List (List ℕ) → List ℕ → Machine
machine_of h sets before = record {
  first = λ a p. bit (first_mask h a) p;
  last = λ e p. bit (last_mask h e) p;
  follow = λ p q. ltb q h.size && bit (get_or before q 0) p;
  meets = λ p b. met h.size sets b p;
  null = null_at h;
}

-- The machine has at most 60 positions, and its masks name no others.
pub record Closed (h : Shape) (before : List ℕ) : Type 0 where
  pub few : h.size ≤ 60
  pub starts : (a : Bool) → Below h.size (first_mask h a)
  pub lasts : (e : Bool) → Below h.size (last_mask h e)
  pub befores : (q : ℕ) → q < h.size → Below h.size (get_or before q 0)

-- ---- one byte

-- Of the candidates that are no longer left: `live` are those that meet the byte, `next` those that may stand before a live one.
pub record Stepped (sets : List (List ℕ)) (before : List ℕ) (candidates b left live next : ℕ) : Type 0 where
  pub kept : (k : ℕ) → bit live k ≡ (bit candidates k && not (bit left k) && has sets k b)
  pub back : (p : ℕ) → T (bit next p) → (q : ℕ) × T (bit live q) × T (bit (get_or before q 0) p)
  pub forth : (p q : ℕ) → T (bit live q) → T (bit (get_or before q 0) p) → T (bit next p)

-- whether some candidate meets the byte
pub record SomeMet (sets : List (List ℕ)) (candidates b : ℕ) (r : Bool) : Type 0 where
  pub yes : r ≡ true → (p : ℕ) × T (bit candidates p) × T (has sets p b)
  pub no : r ≡ false → (p : ℕ) → T (bit candidates p) → T (has sets p b) → ⊥

-- ---- what need not be looked at

-- the empty part fits somewhere in a text of n bytes that is not empty
abbrev pub null_somewhere : Shape → ℕ → Bool
null_somewhere h n = (h.head || h.tail) || (h.middle && ltb 1 n)

-- A text that begins with the byte b has no part but an empty one: another could begin at the text's start alone, and no position that may
-- begin it meets b.
pub record Shut (h : Shape) (sets : List (List ℕ)) (b : ℕ) : Type 0 where
  pub not_inner : h.inner ≡ 0
  pub not_start : (p : ℕ) → T (bit h.start p) → T (has sets p b) → ⊥

-- the position, where one is told, is the only one of the mask
abbrev pub Only : ℕ → Option ℕ → Type 0
Only mask None = Unit {0}
Only mask (Some p) = (p < 60) × ((k : ℕ) → T (bit mask k) → k ≡ p)

-- no byte of the set stands at a place above r, up to `from`
pub record LastMet (set text : List ℕ) (from r : ℕ) : Type 0 where
  pub within : r ≤ from
  pub none : (k : ℕ) → r < k → k ≤ from → in_set set (get_or text k 0) ≡ false

-- From i a scan that keeps `next` goes on at r: at the places between nothing is live, no empty part fits, and no position that may end a
-- part meets the byte.
pub record Passed (h : Shape) (sets : List (List ℕ)) (text : List ℕ) (next i r : ℕ) : Type 0 where
  pub above : 0 < r
  pub within : r ≤ i
  pub not_live : r < i → next ≡ 0
  pub not_empty : r < i → h.middle ≡ false
  pub not_last : r < i → i < length text
  pub unmet : (k : ℕ) → r ≤ k → k < i → (q : ℕ) → T (bit h.stops q) → has sets q (get_or text k 0) ≡ false
