-- How many parts document 01 reads a request's bytes into.
use Rattle.std.proofs.Math.Option.{Option, none, some}
use Rattle.std.specs.Prelude.{◌≡◌, List, ℕ, length}
use Rattle.octets.specs.Lists.{total}
use Rattle.request.specs.Request.{request_lines, Request, Field, read_request}
use Rattle.probes.specs.declared.counts.Parts.{Parts}

-- the values that a field is cut into
abbrev pub values_in : Field → ℕ
values_in f = length f.values

-- refusal 7 where nothing was read, else the fields, the values of all of them, and the body lines that are fields
unfoldable pub counted : Option Request → Parts
unfolding request_lines
counted none = record { refusal = 7; fields = 0; values = 0; lines = 0 }
counted (some q) = record { refusal = 0; fields = length q.fields; values = total values_in q.fields; lines = length (request_lines q) }

-- of a request's bytes
unfoldable pub parts : List ℕ → Parts
unfolding read_request counted
parts s = counted (read_request s)

-- what the exported call returns and leaves in the lent numbers
pub record PartsTo (s : List ℕ) (number fields values lines : ℕ) : Type 0 where
  pub number_is : number ≡ (parts s).refusal
  pub fields_is : fields ≡ (parts s).fields
  pub values_is : values ≡ (parts s).values
  pub lines_is : lines ≡ (parts s).lines
