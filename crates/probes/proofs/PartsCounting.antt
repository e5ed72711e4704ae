-- The loop over the lines of a body, and the answer as a whole.
use Rattle.std.specs.Prelude.{Option as Answer, Some, None}
use mathlib.Core.Option.{some}
use mathlib.Core.Path.{◌≡◌, sym, ap, ◌∙◌, subst}
use mathlib.Core.List.{List, []}
use Prim.Native.Nat.{ℕ, ◌+◌, ◌≤◌, ◌<◌}
use native.Mathlib.Omega.{arith}
use lib.ListN.{length}
use Rattle.octets.proofs.Kept.{total_mono, total_const}
use Rattle.contents.specs.Body.{session_lines}
use Rattle.contents.specs.Inner.Places.{session_from}
use Rattle.contents.specs.Inner.Walks.{FieldLineAt, NextField}
use Rattle.contents.specs.declared.FieldLine.{FieldLine}
use Rattle.contents.proofs.BodyLines.{session_start}
use Rattle.contents.proofs.Walks.{line_here, line_none}
use Rattle.request.specs.Request.{request_lines}
use Rattle.request.specs.Inner.Places.{Read, Placed, request_of}
use Rattle.request.specs.declared.Places.{Places}
use Rattle.request.proofs.Answers.{read_none}
use Rattle.request.proofs.Few.{weight}
use Rattle.request.proofs.Readings.{reads_so, short, fields_many, fields_few, head_inside}
use Rattle.probes.specs.Inner.Parts.{counted, parts, PartsTo}
use Rattle.probes.specs.declared.counts.Parts.{Parts}

-- ---- lines

-- the lines before p are counted
pub record Lining (body : List ℕ) (p n : ℕ) : Type 0 where
  pub sum : n + length (session_from body p) ≡ length (session_lines body)
  pub inside : p ≤ length body + 1
  pub few : n ≤ p

pub lining_first : (body : List ℕ) → Lining body 0 0
lining_first body = record {
  sum = omega (arith, ap length (session_start body));
  inside = omega arith;
  few = omega arith;
}

module _ (body : List ℕ) (p : ℕ) (x : Answer FieldLine) (says : NextField body p x) where
  pub lining_end : x ≡ None → (n : ℕ) → Lining body p n → n ≡ length (session_lines body)
  lining_end e n w =
      let past : session_from body p ≡ [] = line_none body p x says e in
      omega (arith, w.sum, ap length past)

  pub lining_next : (l : FieldLine) → x ≡ Some l → (n : ℕ) → Lining body p n → Lining body l.next (n + 1)
  lining_next l e n w =
      let here : FieldLineAt body p l = line_here body p x says l e in
      record {
        sum = omega (arith, w.sum, ap length here.list);
        inside = here.next_inside;
        few = omega (arith, w.few, here.on);
      }

pub lining_room : (body : List ℕ) (p n : ℕ) → Lining body p n → length body ≤ 65535 → n + 1 < 4294967296
lining_room body p n w short = omega (arith, w.few, w.inside)

-- ---- the whole

module _ (s starts colons starts' colons' : List ℕ) (r : Answer Places) (k : Read s starts colons starts' colons' r) where
  pub nothing_read : r ≡ None → ◌≡◌ {A = Parts} (record { refusal = 7; fields = 0; values = 0; lines = 0 }) (parts s)
  unfolding parts counted
  nothing_read e = sym (ap counted (read_none s starts colons starts' colons' (subst (Read s starts colons starts' colons') e k)))

module _ (s starts colons : List ℕ) (p : Places) (k : Placed s starts colons p) where
  pub fields_low : p.fields < 4294967296
  fields_low =
      omega (
        arith,
        fields_many s starts colons p k,
        fields_few s starts colons p k,
        total_mono (λ f. 1) weight (λ f. omega arith) (request_of s).fields,
        total_const 1 (request_of s).fields,
        head_inside s starts colons p k,
        short s starts colons p k,
      )

  pub parts_counted : (values lines n : ℕ) (rest : List ℕ) → values ≡ (parts s).values → session_lines rest ≡ request_lines (request_of s)
      → lines ≡ length (session_lines rest) → n ≡ p.fields
      → ◌≡◌ {A = Parts} (record { refusal = 0; fields = n; values = values; lines = lines }) (parts s)
  unfolding parts counted
  parts_counted values lines n rest ev er el en =
      let whole : parts s ≡ counted (some (request_of s)) = ap counted (reads_so s starts colons p k) in
      let lines_so : lines ≡ length (request_lines (request_of s)) = el ∙ ap length er in
      let values_so : values ≡ (counted (some (request_of s))).values = ev ∙ ap (λ (w : Parts). w.values) whole in
      let fields_so : n ≡ length (request_of s).fields = en ∙ sym (fields_many s starts colons p k) in
      (λ j. record { refusal = 0; fields = fields_so j; values = values_so j; lines = lines_so j })
      ∙ sym whole

pub passes : (s : List ℕ) (p : Parts) → p ≡ parts s → PartsTo s p.refusal p.fields p.values p.lines
passes s p e = record {
  number_is = ap (λ (x : Parts). x.refusal) e;
  fields_is = ap (λ (x : Parts). x.fields) e;
  values_is = ap (λ (x : Parts). x.values) e;
  lines_is = ap (λ (x : Parts). x.lines) e;
}
