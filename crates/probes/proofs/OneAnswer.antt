-- What the calls for tests and measures promise leaves one answer, and one content of every lent number.
use mathlib.Core.List.{List}
use mathlib.Core.Path.{◌≡◌, sym, ◌∙◌}
use Prim.Native.Nat.{ℕ}
use Rattle.probes.specs.Inner.Lines.{LinesTo}
use Rattle.probes.specs.Inner.Parts.{PartsTo}

pub one_lines : {p block : List ℕ} {fold n n' m m' : ℕ} → LinesTo p fold block n m → LinesTo p fold block n' m' → (n ≡ n') × (m ≡ m')
one_lines h k = (h.number_is ∙ sym k.number_is, h.met_is ∙ sym k.met_is)

pub one_parts : {s : List ℕ} {n n' f f' v v' l l' : ℕ} → PartsTo s n f v l → PartsTo s n' f' v' l' → (n ≡ n') × (f ≡ f') × (v ≡ v') × (l ≡ l')
one_parts h k =
    (h.number_is ∙ sym k.number_is, h.fields_is ∙ sym k.fields_is, h.values_is ∙ sym k.values_is, h.lines_is ∙ sym k.lines_is)
