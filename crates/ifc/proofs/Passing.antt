-- What the layers below promise of an answer, passed on part by part.
use mathlib.Core.List.{List}
use mathlib.Core.Path.{◌≡◌, ap, ◌∙◌}
use Prim.Native.Nat.{ℕ}
use Rattle.lookups.specs.Lookups.{Checks, Serves, Informs}
use Rattle.lookups.specs.declared.Checked.{Checked}
use Rattle.lookups.specs.declared.Lookup.{Lookup}
use Rattle.session.specs.Session.{Opens, Reports}
use Rattle.session.specs.declared.Opened.{Opened}
use Rattle.session.specs.declared.Reported.{Reported}
use Rattle.session.specs.declared.Session.{Session}
use Rattle.rows.specs.Rows.{given}
use Rattle.route.specs.Advance.{Advances}
use Rattle.listing.specs.Listing.{Lists}
use Rattle.route.specs.declared.Advanced.{Advanced}
use Rattle.listing.specs.declared.Listed.{Listed}
use Rattle.show.specs.Show.{Shows}
use Rattle.show.specs.declared.Answer.{Answer}
use Rattle.plain.specs.Plain.{Plains}
use Rattle.plain.specs.declared.Answer as plain
use Rattle.ifc.specs.Exports.{as_number, session_of, CheckTo, OpenTo, ReportTo, ServerTo, InformationTo, AdvanceTo, ListTo, ShowTo, PlainTo}

pub passes_check : {image : List ℕ} {a : Checked} → Checks image a → CheckTo image a.refusal a.place
passes_check h = record { number_is = ap (λ (x : Checked). x.refusal) h.answer; place_is = ap (λ (x : Checked). x.place) h.answer }

pub passes_open : {wanted : ℕ} {a : Opened} → Opens wanted a
    → OpenTo wanted a.refusal a.session.case a.session.state a.session.forwarded a.session.last a.session.handling
passes_open h =
    record {
      number_is = ap (λ (x : Opened). x.refusal) h.answer;
      case_is = ap (λ (x : Opened). x.session.case) h.answer;
      state_is = ap (λ (x : Opened). x.session.state) h.answer;
      forwarded_is = ap (λ (x : Opened). x.session.forwarded) h.answer;
      last_is = ap (λ (x : Opened). x.session.last) h.answer;
      handling_is = ap (λ (x : Opened). x.session.handling) h.answer;
    }

pub passes_report : {case before forwarded last handling report : ℕ} {a : Reported}
    → Reports (session_of case before forwarded last handling) report a
    → ReportTo case before forwarded last handling report a.refusal a.session.state
passes_report h = record { number_is = ap (λ (x : Reported). x.refusal) h.answer; state_is = ap (λ (x : Reported). x.session.state) h.answer }

pub passes_server : {image : List ℕ} {i : ℕ} {a : Lookup} → Serves image i a → ServerTo image i a.refusal a.place a.start a.size
passes_server h =
    record {
      number_is = ap (λ (x : Lookup). x.refusal) h.answer;
      place_is = ap (λ (x : Lookup). x.place) h.answer;
      start_is = ap (λ (x : Lookup). x.start) h.answer;
      size_is = ap (λ (x : Lookup). x.size) h.answer;
    }

pub passes_information : {image : List ℕ} {i n : ℕ} {a : Lookup} → Informs image i a → n ≡ as_number a.present
    → InformationTo image i a.refusal a.place n a.start a.size
passes_information h e =
    record {
      number_is = ap (λ (x : Lookup). x.refusal) h.answer;
      place_is = ap (λ (x : Lookup). x.place) h.answer;
      present_is = e ∙ ap (λ (x : Lookup). as_number x.present) h.answer;
      start_is = ap (λ (x : Lookup). x.start) h.answer;
      size_is = ap (λ (x : Lookup). x.size) h.answer;
    }

pub passes_advance : {x : Session} {image request : List ℕ} {a : Advanced}
    → Advances x image request a
    → AdvanceTo x image request a.refusal a.session.state a.session.forwarded a.session.last
    a.session.handling a.place a.outcome a.number a.priority a.examined a.trials
passes_advance h =
    record {
      number_is = ap (λ (x : Advanced). x.refusal) h.answer;
      state_is = ap (λ (x : Advanced). x.session.state) h.answer;
      forwarded_is = ap (λ (x : Advanced). x.session.forwarded) h.answer;
      last_is = ap (λ (x : Advanced). x.session.last) h.answer;
      handling_is = ap (λ (x : Advanced). x.session.handling) h.answer;
      place_is = ap (λ (x : Advanced). x.place) h.answer;
      outcome_is = ap (λ (x : Advanced). x.outcome) h.answer;
      criterion_is = ap (λ (x : Advanced). x.number) h.answer;
      priority_is = ap (λ (x : Advanced). x.priority) h.answer;
      examined_is = ap (λ (x : Advanced). x.examined) h.answer;
      trials_is = ap (λ (x : Advanced). x.trials) h.answer;
    }

pub passes_list : {image request : List ℕ} {case registration : ℕ} {before after : List ℕ} {a : Listed}
    → Lists (given case registration) image request before a after
    → ListTo image request case registration before after a.refusal a.place a.count a.examined a.trials
passes_list h =
    record {
      number_is = ap (λ (x : Listed). x.refusal) h.answer;
      list_is = h.places;
      place_is = ap (λ (x : Listed). x.place) h.answer;
      count_is = ap (λ (x : Listed). x.count) h.answer;
      examined_is = ap (λ (x : Listed). x.examined) h.answer;
      trials_is = ap (λ (x : Listed). x.trials) h.answer;
    }

pub passes_show : {image request : List ℕ} {row : ℕ} {a : Answer} → Shows image request row a
    → ShowTo image request row a.refusal a.place a.found a.field a.value a.start a.size
passes_show h =
    record {
      number_is = ap (λ (x : Answer). x.refusal) h.answer;
      place_is = ap (λ (x : Answer). x.place) h.answer;
      found_is = ap (λ (x : Answer). x.found) h.answer;
      field_is = ap (λ (x : Answer). x.field) h.answer;
      value_is = ap (λ (x : Answer). x.value) h.answer;
      start_is = ap (λ (x : Answer). x.start) h.answer;
      size_is = ap (λ (x : Answer). x.size) h.answer;
    }

pub passes_plain : {pattern text : List ℕ} {n : ℕ} {a : plain.Answer} → Plains pattern text a → n ≡ as_number a.found
    → PlainTo pattern text a.refusal n a.start a.size
passes_plain h e =
    record {
      number_is = ap (λ (x : plain.Answer). x.refusal) h.answer;
      found_is = e ∙ ap (λ (x : plain.Answer). as_number x.found) h.answer;
      start_is = ap (λ (x : plain.Answer). x.start) h.answer;
      size_is = ap (λ (x : plain.Answer). x.size) h.answer;
    }
