-- What a text tells, value by value, each with the point at which it is read.
use Rattle.std.proofs.Math.Option.{Option, none, some}
use Rattle.std.specs.Prelude.{ℕ, List, [], ◌∷◌}
use Rattle.scan.specs.Criteria.{Test, request_uri, method, header, session_case, description, Row, Trigger, Server, Criterion}

pub data Event : Type 0 where
  number_at : ℕ → ℕ → Event
  string_at : ℕ → List ℕ → Event

-- ---- what is told comes before what comes

abbrev pub note : ℕ → ℕ → List Event → List Event
note q n l = number_at q n ∷ l

abbrev pub note_text : ℕ → List ℕ → List Event → List Event
note_text q t l = string_at q t ∷ l

abbrev pub if_any : {A R : Type 0} → (A → R → R) → Option A → R → R
if_any f none l = l
if_any f (some a) l = f a l

abbrev pub each_of : {A R : Type 0} → (A → R → R) → List A → R → R
each_of f [] l = l
each_of f (a ∷ more) l = f a (each_of f more l)

-- the first, and those after it
abbrev pub first_and : {A R : Type 0} → (A → R → R) → (A → R → R) → List A → R → R
first_and f g [] l = l
first_and f g (a ∷ more) l = f a (each_of g more l)

-- ---- table E.2

abbrev pub of_test : Test → List Event → List Event
of_test (request_uri u) l = note_text 34 u l
of_test (method m) l = note_text 35 m l
of_test (header h c) l = note_text 36 h (if_any (note_text 37) c l)
of_test (session_case n) l = note 29 n l
of_test (description d c) l = note_text 38 d (if_any (note_text 39) c l)

abbrev pub of_row : Row → List Event → List Event
of_row r l = if_any (note 27) r.negated (each_of (note 28) r.groups (of_test r.test (first_and (note 30) (note 31) r.types l)))

abbrev pub of_trigger : Trigger → List Event → List Event
of_trigger t l = note 26 t.cnf (each_of of_row t.rows l)

abbrev pub of_server : Server → List Event → List Event
of_server v l = note_text 40 v.name (if_any (note 32) v.handling (if_any (note_text 41) v.info l))

abbrev pub of_criterion : Criterion → List Event → List Event
of_criterion c l = note 25 c.priority (if_any of_trigger c.trigger (of_server c.server (if_any (note 33) c.part l)))

abbrev pub events : List Criterion → List Event
events cs = each_of of_criterion cs []
