-- 01, "Numbers a caller can get", M-100, M-103, M-105, M-106, M-111, M-112 and M-113: which calls give which numbers. A call gives a number when
-- it does so for some input.
use Rattle.std.specs.Prelude.{ℕ, List, [], ◌∷◌, ◌++◌}
use Rattle.index.specs.Numbers.{Answers}
use Rattle.index.specs.Wide.{Sent}
use Rattle.index.specs.Calls.{block_needs, Makes, Sends, CarriesOut, WritesSet, ReadsSet}
use Rattle.directory.specs.By.{MakesDirectory, SendsBy, ReadBy, WriteBy}
use Rattle.rights.specs.Questions.{ask_needs, Full, Short, FullBy, ShortBy}
use Rattle.rights.specs.Through.{LetsThrough}
use Rattle.rights.specs.Near.{IsNear}
use Rattle.slips.specs.Calls.{ChecksSlip, FindsSlip}
use Rattle.calendar.specs.declared.Date.{Date}
use Rattle.calendar.specs.Calls.{DayOf, DateOf, AnniversaryOf, SpanOf}
use Rattle.appointments.specs.Moves.{Moved}
use Rattle.appointments.specs.Asking.{Stands, NextChange}
use Rattle.bearing.specs.Bearing.{Bearing}
use Rattle.tight.specs.Limits.{Engine, Promises}

abbrev pub MakeGives : ℕ → Type 0
MakeGives n = (b : List ℕ) × (b' : List ℕ) × Makes b (n, b')

-- A message of this form, plain or wide.
abbrev pub SentGives : (List ℕ → Sent) → ℕ → Type 0
SentGives form n = (b : List ℕ) × (m : List ℕ) × (b' : List ℕ) × Sends b (form m) (n, b')

-- carry_out, the door for a list of changes, which gives the numbers of a message.
abbrev pub ListGives : ℕ → Type 0
ListGives n = (b : List ℕ) × (cs : List ℕ) × (b' : List ℕ) × CarriesOut b cs (n, b')

abbrev pub WriteGives : ℕ → Type 0
WriteGives n =
    (b : List ℕ) × (kind : ℕ) × (x : ℕ) × (out : List ℕ) × (r : ℕ × List ℕ) × WritesSet b kind x out (n, r.0, r.1)

abbrev pub ReadGives : ℕ → Type 0
ReadGives n =
    (b : List ℕ) × (kind : ℕ) × (x : ℕ) × (text : List ℕ) × (r : ℕ × List ℕ) × ReadsSet b kind x text (n, r.0, r.1)

-- The two questions, with the same input.
abbrev pub QuestionsGive : ℕ → Type 0
QuestionsGive n =
    (b : List ℕ) × (u : ℕ) × (o : ℕ) × (request : ℕ) × (profile : ℕ) × (values : ℕ × ℕ × ℕ) × (answer : ℕ)
    × Full b u o request profile (n, values.0, values.1, values.2) × Short b u o request profile (n, answer)

-- ---- M-103: slips

abbrev pub FindGives : ℕ → Type 0
FindGives n =
    (b : List ℕ) × (u : ℕ) × (o : ℕ) × (right : ℕ) × (us : List ℕ) × (os : List ℕ) × (v : ℕ × ℕ × List ℕ × List ℕ)
    × FindsSlip b u o right us os (n, v.0, v.1, v.2, v.3)

abbrev pub CheckGives : ℕ → Type 0
CheckGives n =
    (b : List ℕ) × (u : ℕ) × (o : ℕ) × (right : ℕ) × (us : List ℕ) × (os : List ℕ) × (answer : ℕ) × ChecksSlip b u o right us os (n, answer)

-- let_through, which both ask first.
abbrev pub LetsGive : ℕ → Type 0
LetsGive n = (b : List ℕ) × (u : ℕ) × (o : ℕ) × (mask : ℕ) × LetsThrough b u o (n, mask)

-- ---- M-111: the rights for a chain limit, by one of the engines

abbrev pub EngineGives : Engine → ℕ → Type 0
EngineGives e n =
    (b : List ℕ) × (u : ℕ) × (o : ℕ) × (request : ℕ) × (limit : ℕ) × (mask : ℕ) × Promises e b u o request limit (n, mask)

-- `ask_refusal`, which both begin with.
abbrev pub AskGives : ℕ → Type 0
AskGives n = (b : List ℕ) × (u : ℕ) × (o : ℕ) × (request : ℕ) × Answers (block_needs b ++ ask_needs u o request) n

-- Both give the number, whatever the limit is.
abbrev pub AnyLimitGives : ℕ → Type 0
AnyLimitGives n = (b : List ℕ) × (u : ℕ) × (o : ℕ) × (request : ℕ) × ((e : Engine) (limit : ℕ) → Promises e b u o request limit (n, 0))

-- ---- M-113: whether a record bears, and whether a name is reached

-- `bears` gives the number, with 1 for yes or 0 for no.
abbrev pub BearsGives : ℕ × ℕ → Type 0
BearsGives a = (b : List ℕ) × (u : ℕ) × (o : ℕ) × (kind : ℕ) × (x : ℕ) × (y : ℕ) × Bearing b u o kind x y a

-- It gives the number, whatever the names are.
abbrev pub AnyNamesGive : ℕ → Type 0
AnyNamesGive n = (b : List ℕ) × (kind : ℕ) × ((u o x y : ℕ) → Bearing b u o kind x y (n, 0))

-- On this block, for this kind, it gives the number for that name as the user, as the object, as the key and as the id, whatever the other three are.
abbrev pub EachNameGives : List ℕ → ℕ → ℕ → ℕ → Type 0
EachNameGives b kind n name =
    (x y z : ℕ) → Bearing b name x kind y z (n, 0) × Bearing b x name kind y z (n, 0) × Bearing b x y kind name z (n, 0) × Bearing b x y kind z name (n, 0)

-- `is_near`, which it asks.
abbrev pub NearGives : ℕ × ℕ → Type 0
NearGives a = (b : List ℕ) × (x : ℕ) × (z : ℕ) × (limit : ℕ) × IsNear b x z limit a

-- It gives the number, whatever the limit is.
abbrev pub AnyReachGives : ℕ → Type 0
AnyReachGives n = (b : List ℕ) × (x : ℕ) × (z : ℕ) × ((limit : ℕ) → IsNear b x z limit (n, 0))

-- ---- M-106: the calls by a directory

abbrev pub DirectoryGives : ℕ → Type 0
DirectoryGives n = (b : List ℕ) × (d : List ℕ) × (d' : List ℕ) × MakesDirectory b d (n, d')

abbrev pub SentByGives : (List ℕ → Sent) → ℕ → Type 0
SentByGives form n =
    (b : List ℕ) × (d : List ℕ) × (m : List ℕ) × (b' : List ℕ) × (d' : List ℕ) × SendsBy b d (form m) (n, 0, b', d')

abbrev pub WriteByGives : ℕ → Type 0
WriteByGives n =
    (b : List ℕ) × (d : List ℕ) × (kind : ℕ) × (x : ℕ) × (out : List ℕ) × (r : ℕ × List ℕ) × WriteBy b d kind x out (n, r.0, r.1)

abbrev pub ReadByGives : ℕ → Type 0
ReadByGives n =
    (b : List ℕ) × (d : List ℕ) × (kind : ℕ) × (x : ℕ) × (text : List ℕ) × (v : ℕ) × (b' : List ℕ) × (d' : List ℕ)
    × ReadBy b d kind x text (n, v, b', d')

abbrev pub QuestionsByGive : ℕ → Type 0
QuestionsByGive n =
    (b : List ℕ) × (d : List ℕ) × (u : ℕ) × (o : ℕ) × (request : ℕ) × (profile : ℕ) × (values : ℕ × ℕ × ℕ) × (answer : ℕ)
    × FullBy b d u o request profile (n, values.0, values.1, values.2) × ShortBy b d u o request profile (n, answer)

-- ---- M-105: days, dates, terms and appointments

abbrev pub DayGives : ℕ → Type 0
DayGives n = (y : ℕ) × (m : ℕ) × (d : ℕ) × (v : ℕ) × DayOf y m d (n, v)

abbrev pub DateGives : ℕ → Type 0
DateGives n = (day : ℕ) × (d : Date) × DateOf day (n, d)

-- An anniversary, and the days of the same term.
abbrev pub TermGives : ℕ → Type 0
TermGives n = (first : Date) × (term : ℕ) × (d : Date) × (s : ℕ × ℕ) × AnniversaryOf first term (n, d) × SpanOf first term (n, s)

abbrev pub MoveGives : ℕ → Type 0
MoveGives n = (b : List ℕ) × (l : List ℕ) × (old : ℕ) × (new : ℕ) × (b' : List ℕ) × Moved b l old new (n, b')

-- What a host asks besides, of one appointment.
abbrev pub AskedGive : ℕ → Type 0
AskedGive n = (l : List ℕ) × (day : ℕ) × (v : ℕ) × (w : ℕ) × Stands l day (n, v) × NextChange l day (n, w)

-- ---- the numbers of each call

-- The column "calls" of 01, read the other way: the numbers of each call.
abbrev pub make_numbers : List ℕ
make_numbers = 0 ∷ 1 ∷ []

-- Of a wide message too.
abbrev pub message_numbers : List ℕ
message_numbers = 0 ∷ 1 ∷ 2 ∷ 3 ∷ 4 ∷ 5 ∷ 6 ∷ 7 ∷ 8 ∷ []

abbrev pub write_numbers : List ℕ
write_numbers = 0 ∷ 1 ∷ 2 ∷ 3 ∷ 4 ∷ 10 ∷ []

abbrev pub read_numbers : List ℕ
read_numbers = 0 ∷ 1 ∷ 2 ∷ 3 ∷ 4 ∷ 8 ∷ 9 ∷ []

-- M-112: with 15, "last".
abbrev pub question_numbers : List ℕ
question_numbers = 0 ∷ 1 ∷ 2 ∷ 4 ∷ 5 ∷ 15 ∷ []

-- M-103: "1, 2, 4 (a slip's names too), then 5 unless exactly one right is named, then 10 if a list lent to the finder has fewer than 33 places, or 11
-- if a checked chain has 0 or more than 33 names."
abbrev pub find_numbers : List ℕ
find_numbers = 0 ∷ 1 ∷ 2 ∷ 4 ∷ 5 ∷ 10 ∷ []

abbrev pub check_numbers : List ℕ
check_numbers = 0 ∷ 1 ∷ 2 ∷ 4 ∷ 5 ∷ 11 ∷ []

abbrev pub lets_numbers : List ℕ
lets_numbers = 0 ∷ 1 ∷ 2 ∷ 4 ∷ []

-- M-111: "1, 2, 4, 5, then 14": those before 14, and all.
abbrev pub before_limit : List ℕ
before_limit = 1 ∷ 2 ∷ 4 ∷ 5 ∷ []

abbrev pub ask_numbers : List ℕ
ask_numbers = 0 ∷ before_limit

abbrev pub engine_numbers : List ℕ
engine_numbers = 0 ∷ 1 ∷ 2 ∷ 4 ∷ 5 ∷ 14 ∷ []

-- M-113: "Refusals: as before." Each with its yes or no, which is no where it refuses.
abbrev pub bears_answers : List (ℕ × ℕ)
bears_answers = (0, 1) ∷ (0, 0) ∷ (1, 0) ∷ (2, 0) ∷ (3, 0) ∷ (4, 0) ∷ []

abbrev pub near_answers : List (ℕ × ℕ)
near_answers = (0, 1) ∷ (0, 0) ∷ (1, 0) ∷ (2, 0) ∷ (4, 0) ∷ (14, 0) ∷ []

-- Those before 4, whatever the names; and those before 14, whatever the limit.
abbrev pub before_names : List ℕ
before_names = 1 ∷ 2 ∷ 3 ∷ []

abbrev pub before_reach : List ℕ
before_reach = 1 ∷ 2 ∷ 4 ∷ []

-- M-106: those of the block, and "13", for "the length only".
abbrev pub directory_numbers : List ℕ
directory_numbers = 0 ∷ 1 ∷ 2 ∷ 13 ∷ []

-- M-106: the numbers of the call without a directory, and "13".
abbrev pub by_directory : List ℕ → List ℕ
by_directory numbers = 13 ∷ numbers

-- M-105: "1, 2, 4, 5, then 12", "then the first of 6, 7, 8 met", and 3 for what is no list.
abbrev pub move_numbers : List ℕ
move_numbers = 0 ∷ 1 ∷ 2 ∷ 3 ∷ 4 ∷ 5 ∷ 12 ∷ 6 ∷ 7 ∷ 8 ∷ []

abbrev pub asked_numbers : List ℕ
asked_numbers = 0 ∷ 3 ∷ 4 ∷ 5 ∷ 12 ∷ []

-- "12 for" "a date that is none, or a day, date, term or anniversary outside the range".
abbrev pub date_numbers : List ℕ
date_numbers = 0 ∷ 12 ∷ []
