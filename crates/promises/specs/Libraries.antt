-- "Try against the statements": libraries that are wrong, and what each would have to be.
use Rattle.std.specs.Prelude.{◌≡◌, ℕ, List}
use Rattle.session.specs.declared.Session.{Session}
use Rattle.rows.specs.declared.Given.{Given}
use Rattle.route.specs.Advance.{Advances}
use Rattle.listing.specs.Listing.{Listing, Lists}
use Rattle.route.specs.declared.Advanced.{Advanced}

-- a library for advance, and that it meets the statement
abbrev pub Library : Type 0
Library = Session → List ℕ → List ℕ → Advanced

abbrev pub Meets : Library → Type 0
Meets lib = (x : Session) (image r : List ℕ) → Advances x image r (lib x image r)

-- one for listing: its answer, and what it leaves in the lent list
abbrev pub Lister : Type 0
Lister = Given → List ℕ → List ℕ → List ℕ → Listing

abbrev pub MeetsList : Lister → Type 0
MeetsList lib = (g : Given) (image r before : List ℕ) → Lists g image r before (lib g image r before).answer (lib g image r before).places

-- five that meet no statement
pub record RuledOut : Type 0 where
  -- "a library that refuses everything"
  pub refuses_all : (lib : Library) → ((x : Session) (image r : List ℕ) → (lib x image r).refusal ≡ 0 → ⊥) → Meets lib → ⊥
  -- "or always routes"
  pub always_routes : (lib : Library) → ((x : Session) (image r : List ℕ) → (lib x image r).outcome ≡ 2) → Meets lib → ⊥
  -- "a listing that writes nothing"
  pub writes_nothing : (lib : Lister) → ((g : Given) (image r before : List ℕ) → (lib g image r before).places ≡ before) → MeetsList lib → ⊥
  -- "a session right at its first advance and idle after": it forwards no session that forwarded before
  pub idle_after : (lib : Library) → ((x : Session) (image r : List ℕ) → x.forwarded ≡ 1 → (lib x image r).outcome ≡ 1 → ⊥) → Meets lib → ⊥
  -- "trials made up": the same whatever the request
  pub trials_made_up : (lib : Library) → ((x : Session) (image a b : List ℕ) → (lib x image a).trials ≡ (lib x image b).trials) → Meets lib → ⊥
