-- The end tag of a value: the last word of its point.
use Rattle.std.specs.Prelude.{ℕ, suc, ◌-◌, length, get_or}
use Rattle.scan.specs.Inner.Points.{firsts, nexts, word_at, first_word}
use Rattle.scan.specs.declared.tags.Tag.{Tag}

-- the number of a point's last word
abbrev pub last_word : ℕ → ℕ
last_word q = first_word (suc q) - 1

abbrev pub as_tag : ℕ → ℕ → Tag
as_tag width next = record { width = width; next = next }

unfoldable pub tag_of : ℕ → Tag
unfolding word_at nexts firsts
tag_of q = as_tag (length (word_at (last_word q))) (get_or nexts (last_word q) 0)
