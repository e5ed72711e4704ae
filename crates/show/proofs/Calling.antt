-- The call: row k of an image that stands, the request, and the image.
use Rattle.std.specs.Prelude.{Option as Found, Some, None, Ok, Err}
use mathlib.Core.Option.{Option, none, some}
use mathlib.Core.Path.{◌≡◌, sym, ap, ◌∙◌}
use mathlib.Core.List.{List}
use Prim.Native.Nat.{ℕ, ◌+◌, ◌*◌, ◌≤◌, ◌<◌}
use lib.ListN.{get_elem?}
use Rattle.cells.specs.Inner.Answers.{number_of}
use Rattle.cells.specs.declared.Refusal.{Refusal}
use Rattle.entries.specs.Inner.Places.{row_numbers}
use Rattle.entries.specs.declared.Row.{Row}
use Rattle.profile.specs.Inner.Decoded.{strings, test_from, row_from, profile_in}
use Rattle.profile.specs.Image.{Judged}
use Rattle.profile.specs.Image as image
use Rattle.profile.specs.Inner.Kept.{Standing, nth_row}
use Rattle.profile.specs.Inner.Accepting.{Accepts}
use Rattle.profile.specs.declared.accepted_image.AcceptedImage.{AcceptedImage}
use Rattle.profile.specs.declared.Layout.{Layout}
use Rattle.profile.proofs.Standings.{row_is, row_past, refused_as, stands_as, accepted_as}
use Rattle.request.specs.Request.{Request, read_request}
use Rattle.request.specs.Inner.Places.{Read, request_of}
use Rattle.request.specs.declared.Places.{Places}
use Rattle.request.proofs.Readings.{unreadable, reads}
use Rattle.spots.specs.declared.Shown.{Shown}
use Rattle.show.specs.Show.{test_shown, refuse_show, answered, show_row, show_read, show_judged, show, Shows}
use Rattle.show.specs.declared.Answer.{Answer}

-- ---- row k

module _ (s table : List ℕ) (y : Layout) (stands : Standing s table y) (k : ℕ) (r : Row) (er : r ≡ row_numbers s (y.rows + 7 * k)) where
  pub kth_shown : (q : Request) (v : Shown) → v ≡ test_shown q (test_from (strings s) r) → v ≡ test_shown q (nth_row s y k).test
  unfolding row_from
  kth_shown q v ev = ev ∙ ap (λ (x : Row). test_shown q (test_from (strings s) x)) er

-- ---- the request

module _ (s starts colons starts' colons' : List ℕ) (rd : Found Places) (read : Read s starts colons starts' colons' rd) (img table : List ℕ) (y : Layout)
    (stands : Standing img table y) (k : ℕ) (a : Answer) where
  abbrev whole : Answer
  whole = show_read (profile_in img) (read_request s) k

  pub show_unreadable : rd ≡ None → a ≡ refuse_show 7 0 → a ≡ whole
  show_unreadable e ea = ea ∙ sym (ap (λ (o : Option Request). show_read (profile_in img) o k) (unreadable s starts colons starts' colons' rd read e))

  module _ (p : Places) (e : rd ≡ Some p) where
    by_row : (o : Option image.Row) → get_elem? (profile_in img).rows k ≡ o → show_row (request_of s) o ≡ whole
    by_row o eo =
        ap (show_row (request_of s)) (sym eo)
        ∙ sym (ap (λ (r : Option Request). show_read (profile_in img) r k) (reads s starts colons starts' colons' rd read p e))

    pub show_past : y.row_count ≤ k → a ≡ refuse_show 13 0 → a ≡ whole
    show_past past ea = ea ∙ by_row none (row_past img table y stands k past)

    pub show_done : k < y.row_count → (v : Shown) → v ≡ test_shown (request_of s) (nth_row img y k).test → a ≡ answered v → a ≡ whole
    show_done h v ev ea = ea ∙ ap answered ev ∙ by_row (some (nth_row img y k)) (row_is img table y stands k h)

-- ---- the image

module _ (img r : List ℕ) (k : ℕ) where
  pub show_fault : (e : Refusal) → Accepts img (Err e) → (n : ℕ) → n ≡ number_of e.fault → (a : Answer) → a ≡ refuse_show n e.place → Shows img r k a
  unfolding show
  show_fault e h n en a ea = record {
    answer = ea ∙ ap (λ (m : ℕ). refuse_show m e.place) en ∙ sym (ap (λ (d : Judged). show_judged d r k) (refused_as img e h));
  }

  pub show_over : (i : AcceptedImage) → Accepts img (Ok i) → (n : ℕ) → n ≡ k → (a : Answer) → a ≡ show_read (profile_in i.bytes.now) (read_request r) n → Shows img r k a
  unfolding show
  show_over i h n en a ea = record {
    answer =
        ea ∙ ap (λ (m : ℕ). show_read (profile_in i.bytes.now) (read_request r) m) en
        ∙ ap (λ (s : List ℕ). show_read (profile_in s) (read_request r) k) h
        ∙ sym (ap (λ (d : Judged). show_judged d r k) (accepted_as img i.table.now i.layout (stands_as img i h)));
  }
