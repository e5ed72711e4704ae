-- Worked triggers over rows that fit or not, and the parts against the cases. One list, one claim.
use Rattle.std.specs.Prelude.{Bool, true, false, ℕ, List, [], ◌∷◌, T, eqb}
use Rattle.std.proofs.Math.Option.{none}
use Rattle.octets.specs.Lists.{every, some_of, agree}
use Rattle.profile.specs.Image.{Member, Criterion}
use Rattle.fitting.specs.Fitting.{memberships, by_form, part_fits}

-- row in group
abbrev in_group : ℕ → ℕ → Member
in_group r g = record { row = r; group = g }

-- form, memberships, the rows that fit, whether the trigger does; a criterion's first row and row count over the groups below, the rows
-- that fit, whether its trigger does by DNF; part, case, whether it fits
pub data Example : Type 0 where
  trigger : ℕ → List Member → List ℕ → Bool → Example
  own_rows : ℕ → ℕ → List ℕ → Bool → Example
  part : ℕ → ℕ → Bool → Example

-- rows 0 and 1 in group 3, rows 1 and 2 in group 4
abbrev groups : List Member
groups = in_group 0 3 ∷ in_group 1 3 ∷ in_group 1 4 ∷ in_group 2 4 ∷ []

-- a criterion of these rows
abbrev over_rows : ℕ → ℕ → Criterion
over_rows first count = record {
  priority = 0;
  part = 2;
  form = 0;
  first = first;
  count = count;
  server = record { start = 0; bytes = [] };
  handling = 0;
  info = none;
}

unfoldable pub right : Example → Bool
unfolding memberships
right (trigger form ms fitting expected) = agree expected (by_form form (λ m. some_of (eqb m.row) fitting) ms)
right (own_rows first count fitting expected) =
    agree expected (by_form 0 (λ m. some_of (eqb m.row) fitting) (memberships (record { rows = []; members = groups; criteria = [] }) (over_rows first count)))
right (part p case expected) = agree expected (part_fits p case)

unfoldable pub examples : List Example
examples =
    -- DNF: in some group all do
    trigger 0 groups (0 ∷ 1 ∷ []) true
    ∷ trigger 0 groups (1 ∷ 2 ∷ []) true
    ∷ trigger 0 groups (0 ∷ 2 ∷ []) false
    ∷ trigger 0 groups [] false
    -- CNF: in every group at least one row fits
    ∷ trigger 1 groups (1 ∷ []) true
    ∷ trigger 1 groups (0 ∷ 2 ∷ []) true
    ∷ trigger 1 groups (0 ∷ []) false
    ∷ trigger 1 groups [] false
    -- no trigger
    ∷ trigger 2 [] [] true
    -- "Groups belong to one trigger only": row 1 is in group 3 too, and is none of the first criterion's
    ∷ own_rows 0 1 (0 ∷ []) true
    ∷ own_rows 0 2 (0 ∷ []) false
    ∷ own_rows 2 1 (0 ∷ 1 ∷ []) false
    -- registered, unregistered, absent
    ∷ part 0 0 true
    ∷ part 0 1 true
    ∷ part 0 2 false
    ∷ part 0 3 false
    ∷ part 1 0 false
    ∷ part 1 1 false
    ∷ part 1 2 true
    ∷ part 1 3 true
    ∷ part 2 0 true
    ∷ part 2 3 true
    ∷ []

-- every example is right
pub all_right : T (every right examples)
unfolding right examples
all_right = tt
