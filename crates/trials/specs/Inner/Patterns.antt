-- A row's prepared patterns, by their bytes.
use Rattle.std.specs.Prelude.{List, [], ℕ, Option, Some, None}
use Rattle.pattern.specs.declared.prepared.Prepared.{Prepared}

-- the Content's, or none
abbrev pub content_bytes : Option Prepared → List ℕ
content_bytes None = []
content_bytes (Some p) = p.bytes.now
