-- The points of a text: where a reading stands between two tags or in a value, and the words that lead from there to the next point.
-- 0 to 24 stand between tags, 25 to 33 in a number, 34 to 41 in a string. proofs/Points holds the table against the grammar.
use Rattle.std.specs.Prelude.{Bool, not, ◌&&◌, List, [], ◌∷◌, ◌≡◌, ℕ, zero, suc, ◌-◌, ◌≤◌, ◌<◌, eqb, ltb, length, get_or, take, drop}
use Rattle.octets.specs.Lists.{pick, text}
use Rattle.cuts.specs.Inner.Searching.{first}
use Rattle.grammar.specs.Reading.{Read, wrong, better, expect, up_to}
use Rattle.grammar.specs.Inner.Made.{shifted}
use Rattle.scan.specs.Inner.Events.{Event}
use Rattle.scan.specs.Table.{blank, digit, plain}
use Rattle.std.specs.Prelude.{Option, Some, None, Result, Ok, Err}
use Rattle.scan.specs.declared.scanner.Kind.{Kind}
use Rattle.scan.specs.declared.scanner.Kind.TheVariants.{Blank, Digit, Text}

-- the number of each point's first word; those of the next point follow
unfoldable pub firsts : List ℕ
firsts =
    0 ∷ 2 ∷ 4 ∷ 7 ∷ 9 ∷ 12 ∷ 14 ∷ 16 ∷ 18 ∷ 21 ∷ 24 ∷ 26 ∷ 33 ∷ 36 ∷ 39 ∷ 41 ∷ 43 ∷ 46 ∷ 48 ∷ 50 ∷ 53 ∷ 55 ∷ 57 ∷ 61 ∷ 64 ∷ 66 ∷ 67 ∷ 68 ∷ 69 ∷ 70 ∷ 71 ∷ 72 ∷ 73 ∷ 74 ∷ 75 ∷ 81 ∷ 87 ∷ 93 ∷ 99 ∷ 105 ∷
    111 ∷ 117 ∷ 123 ∷ []

-- where each word begins in the letters
unfoldable pub starts : List ℕ
starts =
    0 ∷ 4 ∷ 27 ∷ 31 ∷ 41 ∷ 45 ∷ 59 ∷ 78 ∷ 82 ∷ 101 ∷ 105 ∷ 127 ∷ 151 ∷ 155 ∷ 179 ∷ 183 ∷ 201 ∷ 205 ∷ 210 ∷ 214 ∷ 219 ∷ 234 ∷ 238 ∷ 256 ∷ 263 ∷ 267 ∷ 274 ∷ 278 ∷ 285 ∷ 297 ∷ 305 ∷ 316 ∷ 329 ∷ 349 ∷ 353 ∷ 371 ∷ 377 ∷ 381 ∷ 399 ∷ 405 ∷
    409 ∷ 415 ∷ 419 ∷ 427 ∷ 431 ∷ 440 ∷ 452 ∷ 456 ∷ 468 ∷ 472 ∷ 478 ∷ 482 ∷ 491 ∷ 512 ∷ 516 ∷ 537 ∷ 541 ∷ 553 ∷ 557 ∷ 574 ∷ 587 ∷ 607 ∷ 611 ∷ 624 ∷ 644 ∷ 648 ∷ 668 ∷ 679 ∷ 698 ∷ 717 ∷ 725 ∷ 739 ∷ 758 ∷ 777 ∷ 795 ∷ 818 ∷ 822 ∷ 826 ∷ 831 ∷ 837 ∷
    843 ∷ 856 ∷ 860 ∷ 864 ∷ 869 ∷ 875 ∷ 881 ∷ 890 ∷ 894 ∷ 898 ∷ 903 ∷ 909 ∷ 915 ∷ 924 ∷ 928 ∷ 932 ∷ 937 ∷ 943 ∷ 949 ∷ 959 ∷ 963 ∷ 967 ∷ 972 ∷ 978 ∷ 984 ∷ 991 ∷ 995 ∷ 999 ∷ 1004 ∷ 1010 ∷ 1016 ∷ 1026 ∷ 1030 ∷ 1034 ∷ 1039 ∷ 1045 ∷ 1051 ∷ 1064 ∷ 1068 ∷ 1072 ∷
    1077 ∷ 1083 ∷ 1089 ∷ 1103 ∷ []

-- the point that each word leads to; 64 more where a comment comes first
unfoldable pub nexts : List ℕ
nexts =
    64 ∷ 1 ∷ 65 ∷ 25 ∷ 66 ∷ 6 ∷ 21 ∷ 67 ∷ 21 ∷ 68 ∷ 33 ∷ 0 ∷ 69 ∷ 0 ∷ 70 ∷ 26 ∷ 71 ∷ 9 ∷ 72 ∷ 9 ∷ 3 ∷ 73 ∷ 27 ∷ 28 ∷ 74 ∷ 28 ∷ 75 ∷ 28 ∷ 34 ∷ 35 ∷ 15 ∷ 29 ∷ 18 ∷ 76 ∷ 30 ∷ 8 ∷ 77 ∷ 31 ∷ 8 ∷ 78 ∷
    8 ∷ 79 ∷ 36 ∷ 80 ∷ 37 ∷ 12 ∷ 81 ∷ 12 ∷ 82 ∷ 38 ∷ 83 ∷ 39 ∷ 12 ∷ 84 ∷ 12 ∷ 85 ∷ 40 ∷ 86 ∷ 32 ∷ 41 ∷ 4 ∷ 87 ∷ 41 ∷ 4 ∷ 88 ∷ 4 ∷ 2 ∷ 7 ∷ 10 ∷ 11 ∷ 12 ∷ 13 ∷ 14 ∷ 23 ∷ 5 ∷ 34 ∷ 34 ∷ 34 ∷ 34 ∷ 34 ∷
    12 ∷ 35 ∷ 35 ∷ 35 ∷ 35 ∷ 35 ∷ 12 ∷ 36 ∷ 36 ∷ 36 ∷ 36 ∷ 36 ∷ 16 ∷ 37 ∷ 37 ∷ 37 ∷ 37 ∷ 37 ∷ 17 ∷ 38 ∷ 38 ∷ 38 ∷ 38 ∷ 38 ∷ 19 ∷ 39 ∷ 39 ∷ 39 ∷ 39 ∷ 39 ∷ 20 ∷ 40 ∷ 40 ∷ 40 ∷ 40 ∷ 40 ∷ 22 ∷ 41 ∷ 41 ∷ 41 ∷
    41 ∷ 41 ∷ 24 ∷ []

-- the words, one after the other
unfoldable pub letters : List ℕ
letters =
    60 ∷ 33 ∷ 45 ∷ 45 ∷ 60 ∷ 73 ∷ 110 ∷ 105 ∷ 116 ∷ 105 ∷ 97 ∷ 108 ∷ 70 ∷ 105 ∷ 108 ∷ 116 ∷ 101 ∷ 114 ∷ 67 ∷ 114 ∷ 105 ∷ 116 ∷ 101 ∷ 114 ∷ 105 ∷ 97 ∷ 62 ∷ 60 ∷ 33 ∷ 45 ∷ 45 ∷ 60 ∷ 80 ∷ 114 ∷ 105 ∷ 111 ∷ 114 ∷ 105 ∷ 116 ∷ 121 ∷
    62 ∷ 60 ∷ 33 ∷ 45 ∷ 45 ∷ 60 ∷ 84 ∷ 114 ∷ 105 ∷ 103 ∷ 103 ∷ 101 ∷ 114 ∷ 80 ∷ 111 ∷ 105 ∷ 110 ∷ 116 ∷ 62 ∷ 60 ∷ 65 ∷ 112 ∷ 112 ∷ 108 ∷ 105 ∷ 99 ∷ 97 ∷ 116 ∷ 105 ∷ 111 ∷ 110 ∷ 83 ∷ 101 ∷ 114 ∷ 118 ∷ 101 ∷ 114 ∷ 62 ∷ 60 ∷ 33 ∷
    45 ∷ 45 ∷ 60 ∷ 65 ∷ 112 ∷ 112 ∷ 108 ∷ 105 ∷ 99 ∷ 97 ∷ 116 ∷ 105 ∷ 111 ∷ 110 ∷ 83 ∷ 101 ∷ 114 ∷ 118 ∷ 101 ∷ 114 ∷ 62 ∷ 60 ∷ 33 ∷ 45 ∷ 45 ∷ 60 ∷ 80 ∷ 114 ∷ 111 ∷ 102 ∷ 105 ∷ 108 ∷ 101 ∷ 80 ∷ 97 ∷ 114 ∷ 116 ∷ 73 ∷ 110 ∷ 100 ∷
    105 ∷ 99 ∷ 97 ∷ 116 ∷ 111 ∷ 114 ∷ 62 ∷ 60 ∷ 47 ∷ 73 ∷ 110 ∷ 105 ∷ 116 ∷ 105 ∷ 97 ∷ 108 ∷ 70 ∷ 105 ∷ 108 ∷ 116 ∷ 101 ∷ 114 ∷ 67 ∷ 114 ∷ 105 ∷ 116 ∷ 101 ∷ 114 ∷ 105 ∷ 97 ∷ 62 ∷ 60 ∷ 33 ∷ 45 ∷ 45 ∷ 60 ∷ 47 ∷ 73 ∷ 110 ∷ 105 ∷
    116 ∷ 105 ∷ 97 ∷ 108 ∷ 70 ∷ 105 ∷ 108 ∷ 116 ∷ 101 ∷ 114 ∷ 67 ∷ 114 ∷ 105 ∷ 116 ∷ 101 ∷ 114 ∷ 105 ∷ 97 ∷ 62 ∷ 60 ∷ 33 ∷ 45 ∷ 45 ∷ 60 ∷ 67 ∷ 111 ∷ 110 ∷ 100 ∷ 105 ∷ 116 ∷ 105 ∷ 111 ∷ 110 ∷ 84 ∷ 121 ∷ 112 ∷ 101 ∷ 67 ∷ 78 ∷ 70 ∷
    62 ∷ 60 ∷ 33 ∷ 45 ∷ 45 ∷ 60 ∷ 83 ∷ 80 ∷ 84 ∷ 62 ∷ 60 ∷ 33 ∷ 45 ∷ 45 ∷ 60 ∷ 83 ∷ 80 ∷ 84 ∷ 62 ∷ 60 ∷ 47 ∷ 84 ∷ 114 ∷ 105 ∷ 103 ∷ 103 ∷ 101 ∷ 114 ∷ 80 ∷ 111 ∷ 105 ∷ 110 ∷ 116 ∷ 62 ∷ 60 ∷ 33 ∷ 45 ∷ 45 ∷ 60 ∷ 67 ∷
    111 ∷ 110 ∷ 100 ∷ 105 ∷ 116 ∷ 105 ∷ 111 ∷ 110 ∷ 78 ∷ 101 ∷ 103 ∷ 97 ∷ 116 ∷ 101 ∷ 100 ∷ 62 ∷ 60 ∷ 71 ∷ 114 ∷ 111 ∷ 117 ∷ 112 ∷ 62 ∷ 60 ∷ 33 ∷ 45 ∷ 45 ∷ 60 ∷ 71 ∷ 114 ∷ 111 ∷ 117 ∷ 112 ∷ 62 ∷ 60 ∷ 33 ∷ 45 ∷ 45 ∷ 60 ∷ 71 ∷
    114 ∷ 111 ∷ 117 ∷ 112 ∷ 62 ∷ 60 ∷ 82 ∷ 101 ∷ 113 ∷ 117 ∷ 101 ∷ 115 ∷ 116 ∷ 85 ∷ 82 ∷ 73 ∷ 62 ∷ 60 ∷ 77 ∷ 101 ∷ 116 ∷ 104 ∷ 111 ∷ 100 ∷ 62 ∷ 60 ∷ 83 ∷ 73 ∷ 80 ∷ 72 ∷ 101 ∷ 97 ∷ 100 ∷ 101 ∷ 114 ∷ 62 ∷ 60 ∷ 83 ∷ 101 ∷ 115 ∷
    115 ∷ 105 ∷ 111 ∷ 110 ∷ 67 ∷ 97 ∷ 115 ∷ 101 ∷ 62 ∷ 60 ∷ 83 ∷ 101 ∷ 115 ∷ 115 ∷ 105 ∷ 111 ∷ 110 ∷ 68 ∷ 101 ∷ 115 ∷ 99 ∷ 114 ∷ 105 ∷ 112 ∷ 116 ∷ 105 ∷ 111 ∷ 110 ∷ 62 ∷ 60 ∷ 33 ∷ 45 ∷ 45 ∷ 60 ∷ 82 ∷ 101 ∷ 103 ∷ 105 ∷ 115 ∷ 116 ∷
    114 ∷ 97 ∷ 116 ∷ 105 ∷ 111 ∷ 110 ∷ 84 ∷ 121 ∷ 112 ∷ 101 ∷ 62 ∷ 60 ∷ 47 ∷ 83 ∷ 80 ∷ 84 ∷ 62 ∷ 60 ∷ 33 ∷ 45 ∷ 45 ∷ 60 ∷ 82 ∷ 101 ∷ 103 ∷ 105 ∷ 115 ∷ 116 ∷ 114 ∷ 97 ∷ 116 ∷ 105 ∷ 111 ∷ 110 ∷ 84 ∷ 121 ∷ 112 ∷ 101 ∷ 62 ∷ 60 ∷
    47 ∷ 83 ∷ 80 ∷ 84 ∷ 62 ∷ 60 ∷ 33 ∷ 45 ∷ 45 ∷ 60 ∷ 47 ∷ 83 ∷ 80 ∷ 84 ∷ 62 ∷ 60 ∷ 33 ∷ 45 ∷ 45 ∷ 60 ∷ 72 ∷ 101 ∷ 97 ∷ 100 ∷ 101 ∷ 114 ∷ 62 ∷ 60 ∷ 33 ∷ 45 ∷ 45 ∷ 60 ∷ 67 ∷ 111 ∷ 110 ∷ 116 ∷ 101 ∷ 110 ∷ 116 ∷ 62 ∷
    60 ∷ 47 ∷ 83 ∷ 73 ∷ 80 ∷ 72 ∷ 101 ∷ 97 ∷ 100 ∷ 101 ∷ 114 ∷ 62 ∷ 60 ∷ 33 ∷ 45 ∷ 45 ∷ 60 ∷ 47 ∷ 83 ∷ 73 ∷ 80 ∷ 72 ∷ 101 ∷ 97 ∷ 100 ∷ 101 ∷ 114 ∷ 62 ∷ 60 ∷ 33 ∷ 45 ∷ 45 ∷ 60 ∷ 76 ∷ 105 ∷ 110 ∷ 101 ∷ 62 ∷ 60 ∷ 33 ∷
    45 ∷ 45 ∷ 60 ∷ 67 ∷ 111 ∷ 110 ∷ 116 ∷ 101 ∷ 110 ∷ 116 ∷ 62 ∷ 60 ∷ 47 ∷ 83 ∷ 101 ∷ 115 ∷ 115 ∷ 105 ∷ 111 ∷ 110 ∷ 68 ∷ 101 ∷ 115 ∷ 99 ∷ 114 ∷ 105 ∷ 112 ∷ 116 ∷ 105 ∷ 111 ∷ 110 ∷ 62 ∷ 60 ∷ 33 ∷ 45 ∷ 45 ∷ 60 ∷ 47 ∷ 83 ∷ 101 ∷
    115 ∷ 115 ∷ 105 ∷ 111 ∷ 110 ∷ 68 ∷ 101 ∷ 115 ∷ 99 ∷ 114 ∷ 105 ∷ 112 ∷ 116 ∷ 105 ∷ 111 ∷ 110 ∷ 62 ∷ 60 ∷ 33 ∷ 45 ∷ 45 ∷ 60 ∷ 83 ∷ 101 ∷ 114 ∷ 118 ∷ 101 ∷ 114 ∷ 78 ∷ 97 ∷ 109 ∷ 101 ∷ 62 ∷ 60 ∷ 33 ∷ 45 ∷ 45 ∷ 60 ∷ 68 ∷ 101 ∷
    102 ∷ 97 ∷ 117 ∷ 108 ∷ 116 ∷ 72 ∷ 97 ∷ 110 ∷ 100 ∷ 108 ∷ 105 ∷ 110 ∷ 103 ∷ 62 ∷ 60 ∷ 83 ∷ 101 ∷ 114 ∷ 118 ∷ 105 ∷ 99 ∷ 101 ∷ 73 ∷ 110 ∷ 102 ∷ 111 ∷ 62 ∷ 60 ∷ 47 ∷ 65 ∷ 112 ∷ 112 ∷ 108 ∷ 105 ∷ 99 ∷ 97 ∷ 116 ∷ 105 ∷ 111 ∷ 110 ∷
    83 ∷ 101 ∷ 114 ∷ 118 ∷ 101 ∷ 114 ∷ 62 ∷ 60 ∷ 33 ∷ 45 ∷ 45 ∷ 60 ∷ 83 ∷ 101 ∷ 114 ∷ 118 ∷ 105 ∷ 99 ∷ 101 ∷ 73 ∷ 110 ∷ 102 ∷ 111 ∷ 62 ∷ 60 ∷ 47 ∷ 65 ∷ 112 ∷ 112 ∷ 108 ∷ 105 ∷ 99 ∷ 97 ∷ 116 ∷ 105 ∷ 111 ∷ 110 ∷ 83 ∷ 101 ∷ 114 ∷
    118 ∷ 101 ∷ 114 ∷ 62 ∷ 60 ∷ 33 ∷ 45 ∷ 45 ∷ 60 ∷ 47 ∷ 65 ∷ 112 ∷ 112 ∷ 108 ∷ 105 ∷ 99 ∷ 97 ∷ 116 ∷ 105 ∷ 111 ∷ 110 ∷ 83 ∷ 101 ∷ 114 ∷ 118 ∷ 101 ∷ 114 ∷ 62 ∷ 60 ∷ 47 ∷ 80 ∷ 114 ∷ 105 ∷ 111 ∷ 114 ∷ 105 ∷ 116 ∷ 121 ∷ 62 ∷ 60 ∷
    47 ∷ 67 ∷ 111 ∷ 110 ∷ 100 ∷ 105 ∷ 116 ∷ 105 ∷ 111 ∷ 110 ∷ 84 ∷ 121 ∷ 112 ∷ 101 ∷ 67 ∷ 78 ∷ 70 ∷ 62 ∷ 60 ∷ 47 ∷ 67 ∷ 111 ∷ 110 ∷ 100 ∷ 105 ∷ 116 ∷ 105 ∷ 111 ∷ 110 ∷ 78 ∷ 101 ∷ 103 ∷ 97 ∷ 116 ∷ 101 ∷ 100 ∷ 62 ∷ 60 ∷ 47 ∷ 71 ∷
    114 ∷ 111 ∷ 117 ∷ 112 ∷ 62 ∷ 60 ∷ 47 ∷ 83 ∷ 101 ∷ 115 ∷ 115 ∷ 105 ∷ 111 ∷ 110 ∷ 67 ∷ 97 ∷ 115 ∷ 101 ∷ 62 ∷ 60 ∷ 47 ∷ 82 ∷ 101 ∷ 103 ∷ 105 ∷ 115 ∷ 116 ∷ 114 ∷ 97 ∷ 116 ∷ 105 ∷ 111 ∷ 110 ∷ 84 ∷ 121 ∷ 112 ∷ 101 ∷ 62 ∷ 60 ∷ 47 ∷
    82 ∷ 101 ∷ 103 ∷ 105 ∷ 115 ∷ 116 ∷ 114 ∷ 97 ∷ 116 ∷ 105 ∷ 111 ∷ 110 ∷ 84 ∷ 121 ∷ 112 ∷ 101 ∷ 62 ∷ 60 ∷ 47 ∷ 68 ∷ 101 ∷ 102 ∷ 97 ∷ 117 ∷ 108 ∷ 116 ∷ 72 ∷ 97 ∷ 110 ∷ 100 ∷ 108 ∷ 105 ∷ 110 ∷ 103 ∷ 62 ∷ 60 ∷ 47 ∷ 80 ∷ 114 ∷ 111 ∷
    102 ∷ 105 ∷ 108 ∷ 101 ∷ 80 ∷ 97 ∷ 114 ∷ 116 ∷ 73 ∷ 110 ∷ 100 ∷ 105 ∷ 99 ∷ 97 ∷ 116 ∷ 111 ∷ 114 ∷ 62 ∷ 38 ∷ 108 ∷ 116 ∷ 59 ∷ 38 ∷ 103 ∷ 116 ∷ 59 ∷ 38 ∷ 97 ∷ 109 ∷ 112 ∷ 59 ∷ 38 ∷ 113 ∷ 117 ∷ 111 ∷ 116 ∷ 59 ∷ 38 ∷ 97 ∷ 112 ∷
    111 ∷ 115 ∷ 59 ∷ 60 ∷ 47 ∷ 82 ∷ 101 ∷ 113 ∷ 117 ∷ 101 ∷ 115 ∷ 116 ∷ 85 ∷ 82 ∷ 73 ∷ 62 ∷ 38 ∷ 108 ∷ 116 ∷ 59 ∷ 38 ∷ 103 ∷ 116 ∷ 59 ∷ 38 ∷ 97 ∷ 109 ∷ 112 ∷ 59 ∷ 38 ∷ 113 ∷ 117 ∷ 111 ∷ 116 ∷ 59 ∷ 38 ∷ 97 ∷ 112 ∷ 111 ∷ 115 ∷
    59 ∷ 60 ∷ 47 ∷ 77 ∷ 101 ∷ 116 ∷ 104 ∷ 111 ∷ 100 ∷ 62 ∷ 38 ∷ 108 ∷ 116 ∷ 59 ∷ 38 ∷ 103 ∷ 116 ∷ 59 ∷ 38 ∷ 97 ∷ 109 ∷ 112 ∷ 59 ∷ 38 ∷ 113 ∷ 117 ∷ 111 ∷ 116 ∷ 59 ∷ 38 ∷ 97 ∷ 112 ∷ 111 ∷ 115 ∷ 59 ∷ 60 ∷ 47 ∷ 72 ∷ 101 ∷ 97 ∷
    100 ∷ 101 ∷ 114 ∷ 62 ∷ 38 ∷ 108 ∷ 116 ∷ 59 ∷ 38 ∷ 103 ∷ 116 ∷ 59 ∷ 38 ∷ 97 ∷ 109 ∷ 112 ∷ 59 ∷ 38 ∷ 113 ∷ 117 ∷ 111 ∷ 116 ∷ 59 ∷ 38 ∷ 97 ∷ 112 ∷ 111 ∷ 115 ∷ 59 ∷ 60 ∷ 47 ∷ 67 ∷ 111 ∷ 110 ∷ 116 ∷ 101 ∷ 110 ∷ 116 ∷ 62 ∷ 38 ∷
    108 ∷ 116 ∷ 59 ∷ 38 ∷ 103 ∷ 116 ∷ 59 ∷ 38 ∷ 97 ∷ 109 ∷ 112 ∷ 59 ∷ 38 ∷ 113 ∷ 117 ∷ 111 ∷ 116 ∷ 59 ∷ 38 ∷ 97 ∷ 112 ∷ 111 ∷ 115 ∷ 59 ∷ 60 ∷ 47 ∷ 76 ∷ 105 ∷ 110 ∷ 101 ∷ 62 ∷ 38 ∷ 108 ∷ 116 ∷ 59 ∷ 38 ∷ 103 ∷ 116 ∷ 59 ∷ 38 ∷
    97 ∷ 109 ∷ 112 ∷ 59 ∷ 38 ∷ 113 ∷ 117 ∷ 111 ∷ 116 ∷ 59 ∷ 38 ∷ 97 ∷ 112 ∷ 111 ∷ 115 ∷ 59 ∷ 60 ∷ 47 ∷ 67 ∷ 111 ∷ 110 ∷ 116 ∷ 101 ∷ 110 ∷ 116 ∷ 62 ∷ 38 ∷ 108 ∷ 116 ∷ 59 ∷ 38 ∷ 103 ∷ 116 ∷ 59 ∷ 38 ∷ 97 ∷ 109 ∷ 112 ∷ 59 ∷ 38 ∷
    113 ∷ 117 ∷ 111 ∷ 116 ∷ 59 ∷ 38 ∷ 97 ∷ 112 ∷ 111 ∷ 115 ∷ 59 ∷ 60 ∷ 47 ∷ 83 ∷ 101 ∷ 114 ∷ 118 ∷ 101 ∷ 114 ∷ 78 ∷ 97 ∷ 109 ∷ 101 ∷ 62 ∷ 38 ∷ 108 ∷ 116 ∷ 59 ∷ 38 ∷ 103 ∷ 116 ∷ 59 ∷ 38 ∷ 97 ∷ 109 ∷ 112 ∷ 59 ∷ 38 ∷ 113 ∷ 117 ∷
    111 ∷ 116 ∷ 59 ∷ 38 ∷ 97 ∷ 112 ∷ 111 ∷ 115 ∷ 59 ∷ 60 ∷ 47 ∷ 83 ∷ 101 ∷ 114 ∷ 118 ∷ 105 ∷ 99 ∷ 101 ∷ 73 ∷ 110 ∷ 102 ∷ 111 ∷ 62 ∷ []

-- word j
unfoldable pub word_at : ℕ → List ℕ
unfolding starts letters
word_at j = take (get_or starts (suc j) 0 - get_or starts j 0) (drop (get_or starts j 0) letters)

-- how many bytes of a word the text begins with
abbrev pub common : List ℕ → List ℕ → ℕ
common [] t = 0
common (c ∷ w) [] = 0
common (c ∷ w) (b ∷ t) = pick (eqb c b) (suc (common w t)) 0

-- so many words from number j on, each with how the text goes on behind it
unfoldable pub choices : {R : Type 0} → (ℕ → List ℕ → Read R) → ℕ → ℕ → List ℕ → Read R
unfolding word_at nexts
choices k j zero t = wrong 0
choices k j (suc n) t = better (expect (word_at j) (k (get_or nexts j 0)) t) (choices k (suc j) n t)

-- ---- what the code answers

-- the bytes that a point passes over: between tags, in a number, in a string
abbrev pub class_of : Kind → ℕ → Bool
class_of Blank = blank
class_of Digit = digit
class_of Text = plain

-- the text goes on with a byte that is none of the set
abbrev pub outside : (ℕ → Bool) → List ℕ → Bool
outside p t = not (p (get_or t 0 0))

-- how many bytes of a set the text begins with
abbrev pub run : (ℕ → Bool) → List ℕ → ℕ
run p t = first (outside p) t

abbrev pub first_word : ℕ → ℕ
first_word q = get_or firsts q 0

abbrev pub word_count : ℕ → ℕ
word_count q = get_or firsts (suc q) 0 - get_or firsts q 0

-- of the words of point q, the one that stands at the front of t; or that none does, and how many bytes go on
pub record Found (q : ℕ) (t : List ℕ) (j : ℕ) : Type 0 where
  pub from : first_word q ≤ j
  pub under : j < first_word (suc q)
  pub whole : common (word_at j) t ≡ length (word_at j)
  pub goes : (k : ℕ → List ℕ → Read (List Event)) → choices k (first_word q) (word_count q) t ≡ shifted (length (word_at j)) (k (get_or nexts j 0) (drop (length (word_at j)) t))

pub record Missing (q : ℕ) (t : List ℕ) (m : ℕ) : Type 0 where
  pub within : m ≤ length t
  pub stops : (k : ℕ → List ℕ → Read (List Event)) → choices k (first_word q) (word_count q) t ≡ wrong m

abbrev pub Chose : ℕ → List ℕ → Result ℕ ℕ → Type 0
Chose q t (Ok j) = Found q t j
Chose q t (Err m) = Missing q t m

-- the bytes that point q passes over
abbrev pub kind_of : ℕ → Kind
kind_of q = pick (ltb q 25) Blank (pick (ltb q 34) Digit Text)

-- ---- ends

-- "each to its first `-->`", "one `<?` to its `?>`"
abbrev pub closing : Bool → List ℕ
closing comment = pick comment (text "-->") (text "?>")

-- that it ends with the byte b behind q and p
abbrev pub ends_by : Bool → ℕ → ℕ → ℕ → Bool
ends_by comment q p b = pick comment (eqb 62 b && (eqb 45 p && eqb 45 q)) (eqb 62 b && eqb 63 p)

-- behind the first w from `at` on, the text is read on; or there is none, and more is needed
pub record ClosedAt (w s : List ℕ) (at e : ℕ) : Type 0 where
  pub forward : at < e
  pub inside : e ≤ length s
  pub goes : (k : List ℕ → Read (List Event)) → up_to w [] k (drop at s) ≡ shifted (e - at) (k (drop e s))

pub record NotClosed (w s : List ℕ) (at : ℕ) : Type 0 where
  pub stops : (k : List ℕ → Read (List Event)) → up_to w [] k (drop at s) ≡ wrong (length s - at)

abbrev pub Closes : List ℕ → List ℕ → ℕ → Option ℕ → Type 0
Closes w s at (Some e) = ClosedAt w s at e
Closes w s at None = NotClosed w s at
