-- What an accepted profile image holds (document 01, "Profile image").
use Rattle.std.specs.Prelude.{Bool, ℕ, List}
use Rattle.std.proofs.Math.Option.{Option}
use Rattle.basic.specs.Pattern.{Pattern}

-- a string of the table: the place of its first byte in the image, and its bytes
pub record Stored : Type 0 where
  pub start : ℕ
  pub bytes : List ℕ

-- a row's kind with what it names: a Method with its registration set; Header and Line are patterns, Content too where present
pub data Test : Type 0 where
  request_uri : List ℕ → Test
  method : List ℕ → ℕ → Test
  header : Pattern → Option Pattern → Test
  session_case : ℕ → Test
  description : Pattern → Option Pattern → Test

-- a trigger row, with the place of its first byte
pub record Row : Type 0 where
  pub place : ℕ
  pub negated : Bool
  pub test : Test

-- a membership: "row (2 bytes), group (2 bytes)"
pub record Member : Type 0 where
  pub row : ℕ
  pub group : ℕ

-- part: 0 registered, 1 unregistered, 2 absent. form: 0 DNF, 1 CNF, 2 no trigger. handling: 0 continued, 1 terminated
pub record Criterion : Type 0 where
  pub priority : ℕ
  pub part : ℕ
  pub form : ℕ
  pub first : ℕ
  pub count : ℕ
  pub server : Stored
  pub handling : ℕ
  pub info : Option Stored

-- what the answers need of the image; strings are read into the rows and criteria that name them
pub record Profile : Type 0 where
  pub rows : List Row
  pub members : List Member
  pub criteria : List Criterion

-- accepted, or refused with a number and a place
pub data Judged : Type 0 where
  accepted : Profile → Judged
  refused : ℕ → ℕ → Judged
