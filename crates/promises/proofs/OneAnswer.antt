-- What each contract cites leaves one answer, and one content of every lent place.
use mathlib.Core.Bool.{Bool}
use mathlib.Core.Path.{◌≡◌, refl, sym, ap, ap₂, ◌∙◌}
use Prim.Native.Nat.{ℕ}
use mathlib.Core.List.{List, [], ◌∷◌}
use native.Mathlib.Omega.{arith}
use lib.Dec.{eqb}
use lib.ListN.{get_or}
use Rattle.std.specs.Prelude.{Option as Found, Some, None, Result, Ok, Err}
use Rattle.octets.specs.Lists.{pick}
use Rattle.cells.specs.Inner.Answers.{number_of}
use Rattle.cells.specs.declared.Fault.{Fault}
use Rattle.cells.specs.declared.Fault.TheVariants.{TooLong, TooShort, Trailing, OutOfRange, WrongString, RepeatedPriority}
use Rattle.cells.specs.declared.Refusal.{Refusal}
use Rattle.profile.specs.Image.{Row, Criterion, Profile, Judged, accepted, refused}
use Rattle.profile.specs.Judging.{judge}
use Rattle.profile.specs.Inner.Accepting.{Accepts}
use Rattle.profile.specs.declared.accepted_image.AcceptedImage.{AcceptedImage}
use Rattle.profile.proofs.Standings.{refused_as, stands_as}
use Rattle.lookups.specs.Lookups.{Checks, Serves, Informs}
use Rattle.lookups.specs.declared.Checked.{Checked}
use Rattle.lookups.specs.declared.Lookup.{Lookup}
use Rattle.show.specs.Show.{Shows}
use Rattle.show.specs.declared.Answer.{Answer}
use Rattle.plain.specs.Plain.{Plains}
use Rattle.plain.specs.declared.Answer as plain
use Rattle.session.specs.Session.{Opens, Reports}
use Rattle.session.specs.declared.Session.{Session}
use Rattle.session.specs.declared.Opened.{Opened}
use Rattle.session.specs.declared.Reported.{Reported}
use Rattle.contents.specs.Body.{Line}
use Rattle.contents.specs.Inner.Places.{values_from, session_from}
use Rattle.contents.specs.Inner.Walks.{NextCut, NextField}
use Rattle.contents.specs.declared.CutValue.{CutValue}
use Rattle.contents.specs.declared.FieldLine.{FieldLine}
use Rattle.request.specs.Inner.Places.{Read, FieldIs}
use Rattle.request.specs.Request.{Request}
use Rattle.request.specs.declared.Places.{Places}
use Rattle.rows.specs.declared.Given.{Given}
use Rattle.rows.specs.Inner.Tried.{Tried}
use Rattle.trials.specs.declared.Verdict.{Verdict}
use Rattle.fitting.specs.Inner.Rowwise.{Considered}
use Rattle.route.specs.Advance.{Advances}
use Rattle.listing.specs.Listing.{Lists}
use Rattle.route.specs.declared.Advanced.{Advanced}
use Rattle.listing.specs.declared.Listed.{Listed}

pub one_check : {image : List ℕ} {a b : Checked} → Checks image a → Checks image b → a ≡ b
one_check h k = h.answer ∙ sym k.answer

pub one_server : {image : List ℕ} {i : ℕ} {a b : Lookup} → Serves image i a → Serves image i b → a ≡ b
one_server h k = h.answer ∙ sym k.answer

pub one_information : {image : List ℕ} {i : ℕ} {a b : Lookup} → Informs image i a → Informs image i b → a ≡ b
one_information h k = h.answer ∙ sym k.answer

pub one_show : {image r : List ℕ} {k : ℕ} {a b : Answer} → Shows image r k a → Shows image r k b → a ≡ b
one_show h k = h.answer ∙ sym k.answer

pub one_plain : {s t : List ℕ} {a b : plain.Answer} → Plains s t a → Plains s t b → a ≡ b
one_plain h k = h.answer ∙ sym k.answer

pub one_open : {case : ℕ} {a b : Opened} → Opens case a → Opens case b → a ≡ b
one_open h k = h.answer ∙ sym k.answer

pub one_report : {x : Session} {n : ℕ} {a b : Reported} → Reports x n a → Reports x n b → a ≡ b
one_report h k = h.answer ∙ sym k.answer

pub one_advance : {x : Session} {image r : List ℕ} {a b : Advanced} → Advances x image r a → Advances x image r b → a ≡ b
one_advance h k = h.answer ∙ sym k.answer

pub one_listing : {g : Given} {image r before after after' : List ℕ} {a b : Listed} → Lists g image r before a after → Lists g image r before b after'
    → (a ≡ b) × (after ≡ after')
one_listing h k = (h.answer ∙ sym k.answer, h.places ∙ sym k.places)

-- ---- between our crates

-- the fault of a number
fault_of : ℕ → Fault
fault_of n = pick (eqb n 1) TooLong (pick (eqb n 2) TooShort (pick (eqb n 3) Trailing (pick (eqb n 4) OutOfRange (pick (eqb n 5) WrongString RepeatedPriority))))

its_fault : (f : Fault) → fault_of (number_of f) ≡ f
unfolding fault_of
its_fault TooLong = refl
its_fault TooShort = refl
its_fault Trailing = refl
its_fault OutOfRange = refl
its_fault WrongString = refl
its_fault RepeatedPriority = refl

one_refusal : (e f : Refusal) → refused (number_of e.fault) e.place ≡ refused (number_of f.fault) f.place → e ≡ f
one_refusal e f q =
    let n : number_of e.fault ≡ number_of f.fault = cc in
    let p : e.place ≡ f.place = cc in
    ap₂ (λ (x : Fault) (y : ℕ). record { fault = x; place = y }) (sym (its_fault e.fault) ∙ ap fault_of n ∙ its_fault f.fault) p

not_both : (d : Judged) {p : Profile} {n place : ℕ} → d ≡ accepted p → d ≡ refused n place → ⊥
not_both (accepted q) e f = let z : ◌≡◌ {A = ℕ} 0 1 = cc in omega arith
not_both (refused m w) e f = let z : ◌≡◌ {A = ℕ} 0 1 = cc in omega arith

-- the same refusal, or an image with the same bytes, the same table of its strings and the same layout
abbrev pub Alike : Result AcceptedImage Refusal → Result AcceptedImage Refusal → Type 0
Alike (Ok a) (Ok b) = (a.bytes.now ≡ b.bytes.now) × (a.table.now ≡ b.table.now) × (a.layout ≡ b.layout)
Alike (Ok a) (Err f) = ⊥
Alike (Err e) (Ok b) = ⊥
Alike (Err e) (Err f) = e ≡ f

pub one_judgement : (s : List ℕ) (a b : Result AcceptedImage Refusal) → Accepts s a → Accepts s b → Alike a b
one_judgement s (Ok a) (Ok b) h k =
    let x = stands_as s a h in
    let y = stands_as s b k in
    (h ∙ sym k, x.table_is ∙ sym y.table_is, x.layout_is ∙ sym y.layout_is)
one_judgement s (Ok a) (Err f) h k = not_both (judge s) (stands_as s a h).accepts (refused_as s f k)
one_judgement s (Err e) (Ok b) h k = not_both (judge s) (stands_as s b k).accepts (refused_as s e h)
one_judgement s (Err e) (Err f) h k = one_refusal e f (sym (refused_as s e h) ∙ refused_as s f k)

-- the same value and the same next place, or none in both
abbrev pub AlikeCut : Found CutValue → Found CutValue → Type 0
AlikeCut (Some x) (Some y) = (x.bytes.now ≡ y.bytes.now) × (x.next ≡ y.next)
AlikeCut (Some x) None = ⊥
AlikeCut None (Some y) = ⊥
AlikeCut None None = Unit {0}

filled : {A : Type 0} (l : List A) {x : A} {xs : List A} → l ≡ x ∷ xs → l ≡ [] → ⊥
filled [] e f = let z : ◌≡◌ {A = ℕ} 0 1 = cc in omega arith
filled (y ∷ l) e f = let z : ◌≡◌ {A = ℕ} 0 1 = cc in omega arith

pub one_cut : (v : List ℕ) (p : ℕ) (a b : Found CutValue) → NextCut v p a → NextCut v p b → AlikeCut a b
one_cut v p (Some x) (Some y) h k = (ap (λ (l : List (List ℕ)). get_or l 0 []) (sym h.list ∙ k.list), h.next_is ∙ sym k.next_is)
one_cut v p (Some x) None h k = filled (values_from v p) h.list k
one_cut v p None (Some y) h k = filled (values_from v p) k.list h
one_cut v p None None h k = tt

-- the same type and value of a line and the same next place, or none in both
abbrev pub AlikeLine : Found FieldLine → Found FieldLine → Type 0
AlikeLine (Some x) (Some y) = (x.kind.now ≡ y.kind.now) × (x.value.now ≡ y.value.now) × (x.next ≡ y.next)
AlikeLine (Some x) None = ⊥
AlikeLine None (Some y) = ⊥
AlikeLine None None = Unit {0}

no_line : Line
no_line = record { type = []; value = [] }

pub one_line : (b : List ℕ) (p : ℕ) (x y : Found FieldLine) → NextField b p x → NextField b p y → AlikeLine x y
one_line b p (Some x) (Some y) h k =
    let e = sym h.list ∙ k.list in
    (ap (λ (l : List Line). (get_or l 0 no_line).type) e, ap (λ (l : List Line). (get_or l 0 no_line).value) e, h.next_is ∙ sym k.next_is)
one_line b p (Some x) None h k = filled (session_from b p) h.list k
one_line b p None (Some y) h k = filled (session_from b p) k.list h
one_line b p None None h k = tt

pub one_field : {s : List ℕ} {i : ℕ} {name name' value value' : List ℕ} → FieldIs s i name value → FieldIs s i name' value' → (name ≡ name') × (value ≡ value')
one_field h k = (h.name_is ∙ sym k.name_is, h.value_is ∙ sym k.value_is)

pub one_reading : {s starts colons starts' starts'' colons' colons'' : List ℕ} {a b : Found Places} → Read s starts colons starts' colons' a → Read s starts colons starts'' colons'' b
    → (a ≡ b) × (starts' ≡ starts'') × (colons' ≡ colons'')
one_reading h k = (h.answer ∙ sym k.answer, h.starts_are ∙ sym k.starts_are, h.colons_are ∙ sym k.colons_are)

one_verdict : {a b : Verdict} → a.fits ≡ b.fits → a.trials ≡ b.trials → a ≡ b
one_verdict p q = ap₂ (λ (x : Bool) (y : ℕ). record { fits = x; trials = y }) p q

pub one_row : {q : Request} {g : Given} {r : Row} {a b : Verdict} → Tried q g r a → Tried q g r b → a ≡ b
one_row h k = one_verdict (h.fit ∙ sym k.fit) (h.tried ∙ sym k.tried)

pub one_criterion : {fits : Criterion → Bool} {trials : Criterion → ℕ} {c : Criterion} {a b : Verdict} → Considered fits trials c a → Considered fits trials c b → a ≡ b
one_criterion h k = one_verdict (h.fit ∙ sym k.fit) (h.tried ∙ sym k.tried)
