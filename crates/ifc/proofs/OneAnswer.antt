-- What each exported contract cites leaves one number to return, and one content of every lent place.
use mathlib.Core.List.{List}
use mathlib.Core.Path.{◌≡◌, sym, ◌∙◌}
use Prim.Native.Nat.{ℕ}
use Rattle.session.specs.declared.Session.{Session}
use Rattle.ifc.specs.Exports.{CheckTo, OpenTo, ReportTo, ServerTo, InformationTo, AdvanceTo, ListTo, ShowTo, PlainTo}

-- both are this
both : {A : Type 0} {a b c : A} → a ≡ c → b ≡ c → a ≡ b
both p q = p ∙ sym q

pub one_check : {image : List ℕ} {n n' p p' : ℕ} → CheckTo image n p → CheckTo image n' p' → (n ≡ n') × (p ≡ p')
one_check h k = (both h.number_is k.number_is, both h.place_is k.place_is)

pub one_open : {wanted n n' c c' s s' f f' l l' d d' : ℕ} → OpenTo wanted n c s f l d → OpenTo wanted n' c' s' f' l' d'
    → (n ≡ n') × (c ≡ c') × (s ≡ s') × (f ≡ f') × (l ≡ l') × (d ≡ d')
one_open h k = (
  both h.number_is k.number_is,
  both h.case_is k.case_is,
  both h.state_is k.state_is,
  both h.forwarded_is k.forwarded_is,
  both h.last_is k.last_is,
  both h.handling_is k.handling_is,
)

pub one_report : {case before forwarded last handling report n n' s s' : ℕ} → ReportTo case before forwarded last handling report n s
    → ReportTo case before forwarded last handling report n' s' → (n ≡ n') × (s ≡ s')
one_report h k = (both h.number_is k.number_is, both h.state_is k.state_is)

pub one_server : {image : List ℕ} {i n n' p p' s s' l l' : ℕ} → ServerTo image i n p s l → ServerTo image i n' p' s' l'
    → (n ≡ n') × (p ≡ p') × (s ≡ s') × (l ≡ l')
one_server h k = (both h.number_is k.number_is, both h.place_is k.place_is, both h.start_is k.start_is, both h.size_is k.size_is)

pub one_information : {image : List ℕ} {i n n' p p' t t' s s' l l' : ℕ} → InformationTo image i n p t s l → InformationTo image i n' p' t' s' l'
    → (n ≡ n') × (p ≡ p') × (t ≡ t') × (s ≡ s') × (l ≡ l')
one_information h k = (
  both h.number_is k.number_is,
  both h.place_is k.place_is,
  both h.present_is k.present_is,
  both h.start_is k.start_is,
  both h.size_is k.size_is,
)

pub one_advance : {x : Session} {image request : List ℕ} {n n' s s' f f' l l' d d' p p' o o' c c' y y' e e' t t' : ℕ}
    → AdvanceTo x image request n s f l d p o c y e t → AdvanceTo x image request n' s' f' l' d' p' o' c' y' e' t'
    → (n ≡ n') × (s ≡ s') × (f ≡ f') × (l ≡ l') × (d ≡ d') × (p ≡ p') × (o ≡ o') × (c ≡ c') × (y ≡ y') × (e ≡ e') × (t ≡ t')
one_advance h k = (
  both h.number_is k.number_is,
  both h.state_is k.state_is,
  both h.forwarded_is k.forwarded_is,
  both h.last_is k.last_is,
  both h.handling_is k.handling_is,
  both h.place_is k.place_is,
  both h.outcome_is k.outcome_is,
  both h.criterion_is k.criterion_is,
  both h.priority_is k.priority_is,
  both h.examined_is k.examined_is,
  both h.trials_is k.trials_is,
)

pub one_list : {image request : List ℕ} {case registration : ℕ} {before after after' : List ℕ} {n n' p p' c c' e e' t t' : ℕ}
    → ListTo image request case registration before after n p c e t → ListTo image request case registration before after' n' p' c' e' t'
    → (n ≡ n') × (after ≡ after') × (p ≡ p') × (c ≡ c') × (e ≡ e') × (t ≡ t')
one_list h k = (
  both h.number_is k.number_is,
  both h.list_is k.list_is,
  both h.place_is k.place_is,
  both h.count_is k.count_is,
  both h.examined_is k.examined_is,
  both h.trials_is k.trials_is,
)

pub one_show : {image request : List ℕ} {row n n' p p' f f' i i' v v' s s' l l' : ℕ} → ShowTo image request row n p f i v s l
    → ShowTo image request row n' p' f' i' v' s' l' → (n ≡ n') × (p ≡ p') × (f ≡ f') × (i ≡ i') × (v ≡ v') × (s ≡ s') × (l ≡ l')
one_show h k = (
  both h.number_is k.number_is,
  both h.place_is k.place_is,
  both h.found_is k.found_is,
  both h.field_is k.field_is,
  both h.value_is k.value_is,
  both h.start_is k.start_is,
  both h.size_is k.size_is,
)

pub one_plain : {pattern text : List ℕ} {n n' f f' s s' l l' : ℕ} → PlainTo pattern text n f s l → PlainTo pattern text n' f' s' l'
    → (n ≡ n') × (f ≡ f') × (s ≡ s') × (l ≡ l')
one_plain h k = (
  both h.number_is k.number_is,
  both h.found_is k.found_is,
  both h.start_is k.start_is,
  both h.size_is k.size_is,
)
