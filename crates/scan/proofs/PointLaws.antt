-- The law of every point, by its number.
use mathlib.Core.Path.{refl, sym, subst}
use mathlib.Core.Logic.{⊎_elim}
use Prim.Native.Nat.{ℕ, zero, suc, ◌≤◌, ◌<◌}
use native.Mathlib.Nat.{eq-or-lt_of_le}
use native.Mathlib.Omega.{arith}
use lib.Dec.{lit<}
use Rattle.grammar.proofs.Sound.{sound}
use Rattle.scan.specs.Table.{blank, plain}
use Rattle.scan.proofs.Runs.{blank_apart, text_apart}
use Rattle.scan.proofs.Leading.{Law, many_law, number_law, top_law}
use Rattle.scan.proofs.Between.{point_in_criterion, point_after_priority, point_after_trigger, point_after_server, point_after_part, point_in_trigger, point_after_cnf, point_after_row, point_in_row, point_after_negated, point_after_group, point_after_test, point_after_type, point_after_types, point_in_header, point_after_header, point_after_content, point_in_description, point_after_line, point_after_line_content, point_in_server, point_after_name, point_after_handling, point_after_info}
use Rattle.scan.proofs.Forgetting.{plain_gap, plain_top}
use Rattle.scan.proofs.Within.{point_priority, point_cnf, point_negated, point_group, point_case, point_type, point_type_2, point_handling, point_part, point_uri_text, point_method_text, point_header_text, point_content_text, point_line_text, point_line_content_text, point_server_text, point_info_text}

-- what holds of each number below n
abbrev pub All : (ℕ → Type 0) → ℕ → Type 0
All P zero = Unit {0}
All P (suc n) = All P n × P n

pub of : (P : ℕ → Type 0) (n : ℕ) → All P n → (q : ℕ) → q < n → P q
of P zero a q h = absurd (omega (arith, h))
of P (suc n) a q h =
    let l : q ≤ n = omega (arith, h) in
    ⊎_elim (λ e. subst P (sym e) a.1) (λ g. of P n a.0 q g) (eq-or-lt_of_le l)

law_0 : Law 0
unfolding sound
law_0 = top_law plain_top

law_1 : Law 1
unfolding sound
law_1 = many_law 1 (lit< tt) blank tt refl blank_apart refl (plain_gap 1 point_in_criterion)

law_2 : Law 2
unfolding sound
law_2 = many_law 2 (lit< tt) blank tt refl blank_apart refl (plain_gap 2 point_after_priority)

law_3 : Law 3
unfolding sound
law_3 = many_law 3 (lit< tt) blank tt refl blank_apart refl (plain_gap 3 point_after_trigger)

law_4 : Law 4
unfolding sound
law_4 = many_law 4 (lit< tt) blank tt refl blank_apart refl (plain_gap 4 point_after_server)

law_5 : Law 5
unfolding sound
law_5 = many_law 5 (lit< tt) blank tt refl blank_apart refl (plain_gap 5 point_after_part)

law_6 : Law 6
unfolding sound
law_6 = many_law 6 (lit< tt) blank tt refl blank_apart refl (plain_gap 6 point_in_trigger)

law_7 : Law 7
unfolding sound
law_7 = many_law 7 (lit< tt) blank tt refl blank_apart refl (plain_gap 7 point_after_cnf)

law_8 : Law 8
unfolding sound
law_8 = many_law 8 (lit< tt) blank tt refl blank_apart refl (plain_gap 8 point_after_row)

law_9 : Law 9
unfolding sound
law_9 = many_law 9 (lit< tt) blank tt refl blank_apart refl (plain_gap 9 point_in_row)

law_10 : Law 10
unfolding sound
law_10 = many_law 10 (lit< tt) blank tt refl blank_apart refl (plain_gap 10 point_after_negated)

law_11 : Law 11
unfolding sound
law_11 = many_law 11 (lit< tt) blank tt refl blank_apart refl (plain_gap 11 point_after_group)

law_12 : Law 12
unfolding sound
law_12 = many_law 12 (lit< tt) blank tt refl blank_apart refl (plain_gap 12 point_after_test)

law_13 : Law 13
unfolding sound
law_13 = many_law 13 (lit< tt) blank tt refl blank_apart refl (plain_gap 13 point_after_type)

law_14 : Law 14
unfolding sound
law_14 = many_law 14 (lit< tt) blank tt refl blank_apart refl (plain_gap 14 point_after_types)

law_15 : Law 15
unfolding sound
law_15 = many_law 15 (lit< tt) blank tt refl blank_apart refl (plain_gap 15 point_in_header)

law_16 : Law 16
unfolding sound
law_16 = many_law 16 (lit< tt) blank tt refl blank_apart refl (plain_gap 16 point_after_header)

law_17 : Law 17
unfolding sound
law_17 = many_law 17 (lit< tt) blank tt refl blank_apart refl (plain_gap 17 point_after_content)

law_18 : Law 18
unfolding sound
law_18 = many_law 18 (lit< tt) blank tt refl blank_apart refl (plain_gap 18 point_in_description)

law_19 : Law 19
unfolding sound
law_19 = many_law 19 (lit< tt) blank tt refl blank_apart refl (plain_gap 19 point_after_line)

law_20 : Law 20
unfolding sound
law_20 = many_law 20 (lit< tt) blank tt refl blank_apart refl (plain_gap 20 point_after_line_content)

law_21 : Law 21
unfolding sound
law_21 = many_law 21 (lit< tt) blank tt refl blank_apart refl (plain_gap 21 point_in_server)

law_22 : Law 22
unfolding sound
law_22 = many_law 22 (lit< tt) blank tt refl blank_apart refl (plain_gap 22 point_after_name)

law_23 : Law 23
unfolding sound
law_23 = many_law 23 (lit< tt) blank tt refl blank_apart refl (plain_gap 23 point_after_handling)

law_24 : Law 24
unfolding sound
law_24 = many_law 24 (lit< tt) blank tt refl blank_apart refl (plain_gap 24 point_after_info)

law_25 : Law 25
unfolding sound
law_25 = number_law 25 (lit< tt) refl refl refl point_priority

law_26 : Law 26
unfolding sound
law_26 = number_law 26 (lit< tt) refl refl refl point_cnf

law_27 : Law 27
unfolding sound
law_27 = number_law 27 (lit< tt) refl refl refl point_negated

law_28 : Law 28
unfolding sound
law_28 = number_law 28 (lit< tt) refl refl refl point_group

law_29 : Law 29
unfolding sound
law_29 = number_law 29 (lit< tt) refl refl refl point_case

law_30 : Law 30
unfolding sound
law_30 = number_law 30 (lit< tt) refl refl refl point_type

law_31 : Law 31
unfolding sound
law_31 = number_law 31 (lit< tt) refl refl refl point_type_2

law_32 : Law 32
unfolding sound
law_32 = number_law 32 (lit< tt) refl refl refl point_handling

law_33 : Law 33
unfolding sound
law_33 = number_law 33 (lit< tt) refl refl refl point_part

law_34 : Law 34
unfolding sound
law_34 = many_law 34 (lit< tt) plain tt refl text_apart refl point_uri_text

law_35 : Law 35
unfolding sound
law_35 = many_law 35 (lit< tt) plain tt refl text_apart refl point_method_text

law_36 : Law 36
unfolding sound
law_36 = many_law 36 (lit< tt) plain tt refl text_apart refl point_header_text

law_37 : Law 37
unfolding sound
law_37 = many_law 37 (lit< tt) plain tt refl text_apart refl point_content_text

law_38 : Law 38
unfolding sound
law_38 = many_law 38 (lit< tt) plain tt refl text_apart refl point_line_text

law_39 : Law 39
unfolding sound
law_39 = many_law 39 (lit< tt) plain tt refl text_apart refl point_line_content_text

law_40 : Law 40
unfolding sound
law_40 = many_law 40 (lit< tt) plain tt refl text_apart refl point_server_text

law_41 : Law 41
unfolding sound
law_41 = many_law 41 (lit< tt) plain tt refl text_apart refl point_info_text

laws : All Law 42
laws = ((((((((((((((((((((((((((((((((((((((((((tt, law_0), law_1), law_2), law_3), law_4), law_5), law_6), law_7), law_8), law_9), law_10), law_11), law_12), law_13), law_14), law_15), law_16), law_17), law_18), law_19), law_20), law_21), law_22), law_23), law_24), law_25), law_26), law_27), law_28), law_29), law_30), law_31), law_32), law_33), law_34), law_35), law_36), law_37), law_38), law_39), law_40), law_41)

pub law : (q : ℕ) → q < 42 → Law q
law q h = of Law 42 laws q h
