-- Worked texts of change request 3: what is written, and where and why a text is refused. One list, one claim.
use Rattle.std.specs.Prelude.{Bool, false, ◌&&◌, ℕ, zero, suc, List, [], ◌∷◌, ◌++◌, length, T, eqb}
use Prim.Native.String.{String}
use Rattle.octets.specs.Lists.{text, every, same}
use Rattle.profile.specs.Examples.{empty_profile, one_criterion}
use Rattle.profile.specs.Written as bytes
use Rattle.profile.specs.Written.{two}
use Rattle.scan.specs.Table.{open_tag, end_tag}
use Rattle.compose.specs.Answer.{Answer, writes, refuses, answer}

-- ---- bytes of images

abbrev string : String → List ℕ
string s = bytes.string (text s)

abbrev row : ℕ → ℕ → ℕ → ℕ → List ℕ
row negated kind first second = bytes.row (bytes.row_of negated kind first second)

abbrev membership : ℕ → ℕ → List ℕ
membership r g = bytes.membership (bytes.member_of r g)

-- ---- writing texts

-- an element
abbrev element : String → List ℕ → List ℕ
element name inside = open_tag name ++ (inside ++ end_tag name)

abbrev value : String → String → List ℕ
value name v = element name (text v)

abbrev criterion : List ℕ → List ℕ
criterion inside = element "InitialFilterCriteria" inside

abbrev server : List ℕ → List ℕ
server inside = element "ApplicationServer" inside

-- server `sip:a`, terminated
abbrev a_server : List ℕ
a_server = server (value "ServerName" "sip:a" ++ value "DefaultHandling" "1")

-- a criterion with this priority and no trigger
abbrev plain : String → List ℕ
plain priority = criterion (value "Priority" priority ++ a_server)

-- a criterion with these rows, from its start tag to the end tag of the last row, and to its end
abbrev begun : String → List ℕ → List ℕ
begun priority rows =
    open_tag "InitialFilterCriteria" ++ (value "Priority" priority ++ (open_tag "TriggerPoint" ++ (value "ConditionTypeCNF" "0" ++ rows)))

abbrev with_rows : String → List ℕ → List ℕ
with_rows priority rows = begun priority rows ++ (end_tag "TriggerPoint" ++ (a_server ++ end_tag "InitialFilterCriteria"))

abbrev row_of : List ℕ → List ℕ
row_of inside = element "SPT" inside

-- group 0 and a method
abbrev method_row : String → List ℕ
method_row m = row_of (value "Group" "0" ++ value "Method" m)

abbrev zeros : ℕ → List ℕ
zeros zero = []
zeros (suc n) = 48 ∷ zeros n

-- ---- the list

-- this image; this number at place 0; the number 14 behind the first bytes; the number 12 where there is room for one byte less
pub data Example : Type 0 where
  gives : List ℕ → List ℕ → Example
  counts : ℕ → List ℕ → Example
  stops : List ℕ → List ℕ → Example
  crowded : List ℕ → ℕ → Example

abbrev is_image : Answer → List ℕ → Bool
is_image (writes s) t = same s t
is_image (refuses n place) t = false

abbrev is_refusal : Answer → ℕ → ℕ → Bool
is_refusal (writes s) n place = false
is_refusal (refuses m at) n place = eqb m n && eqb at place

unfoldable pub right : Example → Bool
unfolding answer
right (gives s t) = is_image (answer s (length t)) t
right (counts n s) = is_refusal (answer s 32768) n 0
right (stops s t) = is_refusal (answer (s ++ t) 32768) 14 (length s)
right (crowded s room) = is_refusal (answer s room) 12 0

unfoldable pub examples : List Example
examples =
    -- "none or more"; document 01's two images
    gives [] empty_profile
    ∷ gives (plain "5") one_criterion
    ∷ crowded (plain "5") 30
    ∷ gives (plain "0005") one_criterion
    ∷ gives (text "<?xml?>\n<!-- a -- b --> " ++ (plain "5" ++ text "\t<!---->")) one_criterion
    -- comments and `<?` end at the first end behind their start
    ∷ stops (text "<!-->") []
    ∷ stops (text "<!--->") []
    ∷ stops (text "<?>") []
    ∷ gives (text "<??>") empty_profile
    ∷ stops (text " <") (text "?x?>")
    ∷ stops (text "<?x?><") (text "?x?>")
    -- the byte that no allowed tag shares
    ∷ stops [] (text "x")
    ∷ stops (text "<Initial") (text ">")
    ∷ stops (text "<InitialFilterCriteria") (text " >")
    ∷ stops (open_tag "InitialFilterCriteria" ++ text "<") (text "/InitialFilterCriteria>")
    ∷ stops (open_tag "InitialFilterCriteria" ++ open_tag "Priority") (text "</Priority>")
    ∷ stops (open_tag "InitialFilterCriteria" ++ open_tag "Priority") (text " 5")
    ∷ stops (open_tag "InitialFilterCriteria" ++ (open_tag "Priority" ++ text "5")) (text "&lt;")
    ∷ stops (begun "5" (open_tag "SPT" ++ (value "Group" "0" ++ text "<Session"))) (text "X>")
    ∷ stops (begun "5" (open_tag "SPT" ++ text "<")) (text "/SPT>")
    ∷ stops
    (begun "5" (open_tag "SPT" ++ (value "Group" "0" ++ (value "Method" "A" ++ (value "RegistrationType" "0" ++ (value "RegistrationType" "1" ++ text "<"))))))
    (text "RegistrationType>")
    ∷ stops (plain "5" ++ text "<InitialFilterCriteria") []
    -- "14 at 65,535 for a longer text"
    ∷ stops (zeros 65535) (zeros 1)
    -- text is kept, entities are replaced once
    ∷ gives (criterion (value "Priority" "0" ++ server (value "ServerName" " &amp;lt;>\n" ++ value "ServiceInfo" "")))
    (1 ∷ two 2 ++ string " &lt;>\n" ++ string "" ++ two 0 ++ two 0 ++ two 1
    ++ (0 ∷ 0 ∷ 0 ∷ 0 ∷ 2 ∷ 2 ∷ []) ++ two 0 ++ two 0 ++ two 0 ++ (2 ∷ two 1))
    ∷ stops (open_tag "InitialFilterCriteria" ++ (value "Priority" "0" ++ (open_tag "ApplicationServer" ++ (open_tag "ServerName" ++ text "a&")))) (text "#60;")
    -- strings once each, in the order of the text; a Group once, and sorted
    ∷ gives (with_rows "5" (row_of (value "ConditionNegated" "1" ++ (value "Group" "7" ++ (value "Group" "3" ++ (value "Group" "07" ++ value "Method" "A"))))) ++ with_rows "6" (method_row "B"))
    (1 ∷ two 3 ++ string "A" ++ string "sip:a" ++ string "B" ++ two 2 ++ row 1 1 0 65535 ++ row 0 1 2 65535
    ++ two 3 ++ membership 0 3 ++ membership 0 7 ++ membership 1 0
    ++ two 2 ++ (0 ∷ 0 ∷ 0 ∷ 5 ∷ 2 ∷ 0 ∷ []) ++ two 0 ++ two 1 ++ two 1 ++ (1 ∷ two 65535)
    ++ (0 ∷ 0 ∷ 0 ∷ 6 ∷ 2 ∷ 0 ∷ []) ++ two 1 ++ two 1 ++ two 1 ++ (1 ∷ two 65535))
    -- "the first of 4, 5, 6 that the image would get"
    ∷ counts 4 (plain "4294967296")
    ∷ counts 4 (criterion (value "Priority" "5" ++ server (value "ServerName" "a" ++ value "DefaultHandling" "2")))
    ∷ counts 5 (criterion (value "Priority" "5" ++ server (value "ServerName" "" ++ value "DefaultHandling" "2")))
    ∷ counts 6 (plain "5" ++ plain "05")
    ∷ counts 5 (with_rows "5" (row_of (value "Group" "65536" ++ value "Method" "a b")))
    ∷ counts 4 (with_rows "5" (row_of (value "Group" "65536" ++ value "Method" "A")))
    ∷ counts 4 (with_rows "5" (row_of (value "Group" "0" ++ value "SessionCase" "4")) ++ plain "5")
    ∷ counts 4 (with_rows "5" (row_of (value "Group" "0" ++ (value "Method" "A" ++ value "RegistrationType" "3"))))
    ∷ []

-- every example is right
pub all_right : T (every right examples)
unfolding right examples
all_right = tt
