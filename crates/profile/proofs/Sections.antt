-- For the steps above: the k-th row, membership and criterion of an accepted image, where it lies, and what bounds it.
use mathlib.Core.Option.{some}
use mathlib.Core.Path.{◌≡◌, subst}
use Prim.Native.Nat.{ℕ, ◌+◌, ◌*◌, ◌≤◌, ◌<◌}
use native.Mathlib.Omega.{arith}
use mathlib.Core.List.{List}
use lib.ListN.{length, get_elem?}
use Rattle.octets.proofs.Options.{Ok}
use Rattle.octets.proofs.Each.{each_at}
use Rattle.profile.specs.Inner.Decoded.{layout, strings, row_from, member_from, criterion_from, profile_in}
use Rattle.profile.proofs.Accepted.{Fine, Sound, accepted_sound}
use Rattle.profile.proofs.Opened.{Opened, spaced_length, spaced_at}

-- where the sections end, all in the image
pub record Lies (s : List ℕ) : Type 0 where
  pub rows_end : (layout s).rows + 7 * (layout s).row_count + 2 ≡ (layout s).members
  pub members_end : (layout s).members + 4 * (layout s).member_count + 2 ≡ (layout s).criteria
  pub criteria_end : (layout s).criteria + 15 * (layout s).criterion_count ≡ length s
  pub size : length s ≤ 32768
  pub rows_few : (layout s).row_count ≤ 2048
  pub members_few : (layout s).member_count ≤ 16384
  pub criteria_few : (layout s).criterion_count ≤ 64

module _ (s : List ℕ) (o : Opened s) where
  sound : Sound s (profile_in s)
  sound = accepted_sound s (profile_in s) o.accepts

  pub rows_many : length (profile_in s).rows ≡ (layout s).row_count
  unfolding profile_in
  rows_many = spaced_length (row_from (strings s) s) 7 (layout s).rows (layout s).row_count

  pub members_many : length (profile_in s).members ≡ (layout s).member_count
  unfolding profile_in
  members_many = spaced_length (member_from s) 4 (layout s).members (layout s).member_count

  pub criteria_many : length (profile_in s).criteria ≡ (layout s).criterion_count
  unfolding profile_in
  criteria_many = spaced_length (criterion_from (strings s) s) 15 (layout s).criteria (layout s).criterion_count

  pub lies : Lies s
  unfolding layout
  lies = record {
    rows_end = omega arith;
    members_end = omega arith;
    criteria_end = o.end;
    size = o.size;
    rows_few = omega (arith, rows_many, sound.rows_few);
    members_few = omega (arith, members_many, sound.members_few);
    criteria_few = omega (arith, criteria_many, sound.few);
  }

  -- the k-th of each section
  pub row_at : (k : ℕ) → k < (layout s).row_count → get_elem? (profile_in s).rows k ≡ some (row_from (strings s) s ((layout s).rows + 7 * k))
  unfolding profile_in
  row_at k h = spaced_at (row_from (strings s) s) 7 (layout s).rows (layout s).row_count k h

  pub criterion_at : (k : ℕ) → k < (layout s).criterion_count → get_elem? (profile_in s).criteria k ≡ some (criterion_from (strings s) s ((layout s).criteria + 15 * k))
  unfolding profile_in
  criterion_at k h = spaced_at (criterion_from (strings s) s) 15 (layout s).criteria (layout s).criterion_count k h

  -- each criterion's trigger has at most 32 rows, which lie in the table
  pub criterion_fine : (k : ℕ) → k < (layout s).criterion_count → Fine s (layout s).row_count (criterion_from (strings s) s ((layout s).criteria + 15 * k))
  criterion_fine k h =
      subst (λ (n : ℕ). Fine s n (criterion_from (strings s) s ((layout s).criteria + 15 * k))) rows_many
      (subst (Ok (Fine s (length (profile_in s).rows))) (criterion_at k h) (each_at (Fine s (length (profile_in s).rows)) (profile_in s).criteria k sound.fine))
