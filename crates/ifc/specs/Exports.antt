-- What each exported call returns and leaves in the lent numbers: the parts, one by one, of what the layers below answer.
use Rattle.std.specs.Prelude.{Bool, List, ◌≡◌, ℕ}
use Rattle.octets.specs.Lists.{pick}
use Rattle.lookups.specs.Lookups.{check, server, information}
use Rattle.session.specs.Session.{open_session, report_session}
use Rattle.session.specs.declared.Session.{Session}
use Rattle.rows.specs.Rows.{given}
use Rattle.route.specs.Advance.{advance}
use Rattle.listing.specs.Listing.{listing}
use Rattle.show.specs.Show.{show}
use Rattle.plain.specs.Plain.{plain_answer}

-- yes is 1, no is 0
abbrev pub as_number : Bool → ℕ
as_number b = pick b 1 0

-- the check: the fault's number and place, 0 and 0 if there is none
pub record CheckTo (image : List ℕ) (number place : ℕ) : Type 0 where
  pub number_is : number ≡ (check image).refusal
  pub place_is : place ≡ (check image).place

-- opening: the session's five numbers, also on a refusal ("a finished session of case 0")
pub record OpenTo (wanted number case state forwarded last handling : ℕ) : Type 0 where
  pub number_is : number ≡ (open_session wanted).refusal
  pub case_is : case ≡ (open_session wanted).session.case
  pub state_is : state ≡ (open_session wanted).session.state
  pub forwarded_is : forwarded ≡ (open_session wanted).session.forwarded
  pub last_is : last ≡ (open_session wanted).session.last
  pub handling_is : handling ≡ (open_session wanted).session.handling

-- the session that five numbers say
abbrev pub session_of : ℕ → ℕ → ℕ → ℕ → ℕ → Session
session_of case state forwarded last handling =
    record { case = case; state = state; forwarded = forwarded; last = last; handling = handling }

-- the report: of a session only the state changes, so only the state is lent
pub record ReportTo (case before forwarded last handling report number state : ℕ) : Type 0 where
  pub number_is : number ≡ (report_session (session_of case before forwarded last handling) report).refusal
  pub state_is : state ≡ (report_session (session_of case before forwarded last handling) report).session.state

-- a criterion's server name: its place and length in the image
pub record ServerTo (image : List ℕ) (criterion number place start size : ℕ) : Type 0 where
  pub number_is : number ≡ (server image criterion).refusal
  pub place_is : place ≡ (server image criterion).place
  pub start_is : start ≡ (server image criterion).start
  pub size_is : size ≡ (server image criterion).size

-- its service information: whether it is there, its place and length in the image
pub record InformationTo (image : List ℕ) (criterion number place present start size : ℕ) : Type 0 where
  pub number_is : number ≡ (information image criterion).refusal
  pub place_is : place ≡ (information image criterion).place
  pub present_is : present ≡ as_number (information image criterion).present
  pub start_is : start ≡ (information image criterion).start
  pub size_is : size ≡ (information image criterion).size

-- advance of a session: its four numbers that may change, and the answer's
pub record AdvanceTo (x : Session) (image request : List ℕ)
    (number state forwarded last handling place outcome criterion priority examined trials : ℕ) : Type 0 where
  pub number_is : number ≡ (advance x image request).refusal
  pub state_is : state ≡ (advance x image request).session.state
  pub forwarded_is : forwarded ≡ (advance x image request).session.forwarded
  pub last_is : last ≡ (advance x image request).session.last
  pub handling_is : handling ≡ (advance x image request).session.handling
  pub place_is : place ≡ (advance x image request).place
  pub outcome_is : outcome ≡ (advance x image request).outcome
  pub criterion_is : criterion ≡ (advance x image request).number
  pub priority_is : priority ≡ (advance x image request).priority
  pub examined_is : examined ≡ (advance x image request).examined
  pub trials_is : trials ≡ (advance x image request).trials

-- the listing: the lent list, and the answer's numbers
pub record ListTo (image request : List ℕ) (case registration : ℕ) (before after : List ℕ) (number place count examined trials : ℕ) : Type 0 where
  pub number_is : number ≡ (listing (given case registration) image request before).answer.refusal
  pub list_is : after ≡ (listing (given case registration) image request before).places
  pub place_is : place ≡ (listing (given case registration) image request before).answer.place
  pub count_is : count ≡ (listing (given case registration) image request before).answer.count
  pub examined_is : examined ≡ (listing (given case registration) image request before).answer.examined
  pub trials_is : trials ≡ (listing (given case registration) image request before).answer.trials

-- showing a row's match: the field or line, the value, and the part's place and length in that
pub record ShowTo (image request : List ℕ) (row number place found field value start size : ℕ) : Type 0 where
  pub number_is : number ≡ (show image request row).refusal
  pub place_is : place ≡ (show image request row).place
  pub found_is : found ≡ (show image request row).found
  pub field_is : field ≡ (show image request row).field
  pub value_is : value ≡ (show image request row).value
  pub start_is : start ≡ (show image request row).start
  pub size_is : size ≡ (show image request row).size

-- the plain matcher: whether some part fits, and its place and length in the text
pub record PlainTo (pattern text : List ℕ) (number found start size : ℕ) : Type 0 where
  pub number_is : number ≡ (plain_answer pattern text).refusal
  pub found_is : found ≡ as_number (plain_answer pattern text).found
  pub start_is : start ≡ (plain_answer pattern text).start
  pub size_is : size ≡ (plain_answer pattern text).size
