-- What the C interface returns: the refusal's number times 2^32, plus a value. On refusal the value is 0, but for 9 of a read:
-- M-101: "9 returns this place where it returned 0."
use Rattle.std.specs.Prelude.{ℕ, ◌+◌, ◌*◌, ◌<◌, ◌≡◌, cond, List, [], ◌∷◌, ltb}
use Rattle.index.specs.Numbers.{First, Answers}
use Rattle.index.specs.Block.{size, key, id, count_at}
use Rattle.index.specs.Message.{IsKind, kind_of}
use Rattle.index.specs.Wide.{Sent}
use Rattle.index.specs.Wide.Sent.{plain, wide}
use Rattle.index.specs.Calls.{block_needs, Makes, Sends, WritesSet, ReadsSet}
use Rattle.directory.specs.By.{MakesDirectory, SendsBy, ReadBy, WriteBy}
use Rattle.rights.specs.Questions.{Full, Short, FullBy, ShortBy}
use Rattle.rights.specs.HeldTo.{HeldTo}
use Rattle.plain.specs.Plain.{Within}
use Rattle.bearing.specs.Bearing.{Bearing}
use Rattle.slips.specs.Calls.{ChecksSlip, FindsSlip}
use Rattle.calendar.specs.declared.Date.{Date}
use Rattle.calendar.specs.Calls.{DayOf, DateOf}
use Rattle.appointments.specs.Moves.{Moved}
use Rattle.appointments.specs.Asking.{Stands, NextChange}

-- The number n and the value v, which fits 32 bits, as one number r of 64 bits.
pub record Packed (n v r : ℕ) : Type 0 where
  pub is : r ≡ 4294967296 * n + v
  pub fits : v < 4294967296

-- Some outcome (n, v) of the call, packed.
abbrev pub Returned : (ℕ → ℕ → Type 0) → ℕ → Type 0
Returned Outcome r = (n : ℕ) × (v : ℕ) × Packed n v r × Outcome n v

-- The calls, by the promises of the libraries below. Those that return a number only have the value 0.
unfoldable pub MakeReturns : List ℕ → ℕ → List ℕ → Type 0
MakeReturns b r b' = Returned (λ n v. (v ≡ 0) × Makes b (n, b')) r

-- A message, plain or wide (M-100).
unfoldable pub SendsReturns : List ℕ → Sent → ℕ → List ℕ → Type 0
SendsReturns b m r b' = Returned (λ n v. (v ≡ 0) × Sends b m (n, b')) r

abbrev pub MessageReturns : List ℕ → List ℕ → ℕ → List ℕ → Type 0
MessageReturns b m r b' = SendsReturns b (plain m) r b'

abbrev pub WideReturns : List ℕ → List ℕ → ℕ → List ℕ → Type 0
WideReturns b m r b' = SendsReturns b (wide m) r b'

-- M-109: the rights, plus 2^4 times "the number of membership records examined" on the user's side, plus 2^18 times that on the
-- object's, as one value v. None of the three runs into the next.
pub record Parts (rights user object v : ℕ) : Type 0 where
  pub is : v ≡ rights + 16 * user + 262144 * object
  pub rights_fit : rights < 16
  pub user_fits : user < 16384

-- The number n and the value v of a full question: v has three parts, which with n are an outcome of it.
abbrev pub InParts : (ℕ × ℕ × ℕ × ℕ → Type 0) → ℕ → ℕ → Type 0
InParts Outcome n v =
    (rights : ℕ) × (user : ℕ) × (object : ℕ) × Parts rights user object v × Outcome (n, rights, user, object)

-- The two questions, in a profile (M-112).
unfoldable pub RightsReturns : List ℕ → ℕ → ℕ → ℕ → ℕ → ℕ → Type 0
RightsReturns b u o request profile r = Returned (InParts (Full b u o request profile)) r

unfoldable pub MayReturns : List ℕ → ℕ → ℕ → ℕ → ℕ → ℕ → Type 0
MayReturns b u o request profile r = Returned (λ n v. Short b u o request profile (n, v)) r

unfoldable pub WriteReturns : List ℕ → ℕ → ℕ → List ℕ → ℕ → List ℕ → Type 0
WriteReturns b kind x out r out' = Returned (λ n v. WritesSet b kind x out (n, v, out')) r

unfoldable pub ReadReturns : List ℕ → ℕ → ℕ → List ℕ → ℕ → List ℕ → Type 0
ReadReturns b kind x text r b' = Returned (λ n v. ReadsSet b kind x text (n, v, b')) r

-- ---- M-103: slips

-- How many names are on the user's chain, plus 2^8 times how many are on the object's, as one value v. The first does not run into the second.
pub record ChainParts (user object v : ℕ) : Type 0 where
  pub is : v ≡ user + 256 * object
  pub user_fits : user < 256

-- The number n and the value v of the finder: v has two parts, which with n are an outcome of it.
abbrev pub InChains : (ℕ → ℕ → ℕ → Type 0) → ℕ → ℕ → Type 0
InChains Outcome n v = (user : ℕ) × (object : ℕ) × ChainParts user object v × Outcome n user object

unfoldable pub FindSlipReturns : List ℕ → ℕ → ℕ → ℕ → List ℕ → List ℕ → ℕ → List ℕ → List ℕ → Type 0
FindSlipReturns b u o right us os r us' os' = Returned (InChains (λ n x y. FindsSlip b u o right us os (n, x, y, us', os'))) r

-- 1 for yes, 0 for no.
unfoldable pub CheckSlipReturns : List ℕ → ℕ → ℕ → ℕ → List ℕ → List ℕ → ℕ → Type 0
CheckSlipReturns b u o right us os r = Returned (λ n v. ChecksSlip b u o right us os (n, v)) r

-- ---- M-111: the rights for a chain limit

-- By the main walk.
unfoldable pub RightsToReturns : List ℕ → ℕ → ℕ → ℕ → ℕ → ℕ → Type 0
RightsToReturns b u o request limit r = Returned (λ n v. HeldTo b u o request limit (n, v)) r

-- By the plain engine.
unfoldable pub PlainReturns : List ℕ → ℕ → ℕ → ℕ → ℕ → ℕ → Type 0
PlainReturns b u o request limit r = Returned (λ n v. Within b u o request limit (n, v)) r

-- ---- M-113: what bears

-- 1 for yes, 0 for no.
unfoldable pub BearsReturns : List ℕ → ℕ → ℕ → ℕ → ℕ → ℕ → ℕ → Type 0
BearsReturns b u o kind x y r = Returned (λ n v. Bearing b u o kind x y (n, v)) r

-- ---- M-106: by a directory

unfoldable pub DirectoryReturns : List ℕ → List ℕ → ℕ → List ℕ → Type 0
DirectoryReturns b d r d' = Returned (λ n v. (v ≡ 0) × MakesDirectory b d (n, d')) r

unfoldable pub SendsByReturns : List ℕ → List ℕ → Sent → ℕ → List ℕ → List ℕ → Type 0
SendsByReturns b d m r b' d' = Returned (λ n v. SendsBy b d m (n, v, b', d')) r

abbrev pub MessageByReturns : List ℕ → List ℕ → List ℕ → ℕ → List ℕ → List ℕ → Type 0
MessageByReturns b d m r b' d' = SendsByReturns b d (plain m) r b' d'

abbrev pub WideByReturns : List ℕ → List ℕ → List ℕ → ℕ → List ℕ → List ℕ → Type 0
WideByReturns b d m r b' d' = SendsByReturns b d (wide m) r b' d'

unfoldable pub RightsByReturns : List ℕ → List ℕ → ℕ → ℕ → ℕ → ℕ → ℕ → Type 0
RightsByReturns b d u o request profile r = Returned (InParts (FullBy b d u o request profile)) r

unfoldable pub MayByReturns : List ℕ → List ℕ → ℕ → ℕ → ℕ → ℕ → ℕ → Type 0
MayByReturns b d u o request profile r = Returned (λ n v. ShortBy b d u o request profile (n, v)) r

unfoldable pub WriteByReturns : List ℕ → List ℕ → ℕ → ℕ → List ℕ → ℕ → List ℕ → Type 0
WriteByReturns b d kind x out r out' = Returned (λ n v. WriteBy b d kind x out (n, v, out')) r

unfoldable pub ReadByReturns : List ℕ → List ℕ → ℕ → ℕ → List ℕ → ℕ → List ℕ → List ℕ → Type 0
ReadByReturns b d kind x text r b' d' = Returned (λ n v. ReadBy b d kind x text (n, v, b', d')) r

-- ---- M-105: appointments

-- The day's number.
unfoldable pub DayReturns : ℕ → ℕ → ℕ → ℕ → Type 0
DayReturns year month day r = Returned (λ n v. DayOf year month day (n, v)) r

-- The date d as one value v: the day of the month, plus 2^5 times the month, plus 2^9 times the year. None of the three runs into the next.
pub record DateParts (d : Date) (v : ℕ) : Type 0 where
  pub is : v ≡ d.day + 32 * d.month + 512 * d.year
  pub day_fits : d.day < 32
  pub month_fits : d.month < 16

unfoldable pub DateReturns : ℕ → ℕ → Type 0
DateReturns day r = Returned (λ n v. (d : Date) × DateParts d v × DateOf day (n, d)) r

unfoldable pub MoveReturns : List ℕ → List ℕ → ℕ → ℕ → ℕ → List ℕ → Type 0
MoveReturns b l old new r b' = Returned (λ n v. (v ≡ 0) × Moved b l old new (n, b')) r

-- The day of the next change, or 0.
unfoldable pub NextReturns : List ℕ → ℕ → ℕ → Type 0
NextReturns l day r = Returned (λ n v. NextChange l day (n, v)) r

-- 1 for yes, 0 for no.
unfoldable pub StandsReturns : List ℕ → ℕ → ℕ → Type 0
StandsReturns l day r = Returned (λ n v. Stands l day (n, v)) r

-- ---- a block as it stands, record by record: only the first of these four calls tests it

-- 1: "block length not 16 to" 49,168, since M-107; 2: "block not good".
unfoldable pub TestedReturns : List ℕ → ℕ → Type 0
TestedReturns b r = Returned (λ n v. (v ≡ 0) × Answers (block_needs b) n) r

-- How many records of the kind. 3: "kind not 1 to 3".
unfoldable pub SizeReturns : List ℕ → ℕ → ℕ → Type 0
SizeReturns b kind r =
    Returned (λ n v. First {O = ℕ × ℕ} (λ n. (n, 0)) ((3, IsKind kind) ∷ []) (λ o. o ≡ (0, size b (kind_of kind))) (n, v)) r

-- Records are numbered from 0 on through all three parts. Past the block's bytes, and above 65,535, there is nothing but 0.
abbrev pub numbered : ℕ → ℕ → ℕ
numbered i v = cond (ltb i 65536) v 0

-- The key of record i, and its id times 65,536.
unfoldable pub RecordReturns : List ℕ → ℕ → ℕ → Type 0
RecordReturns b i r = Returned (λ n v. (n ≡ 0) × (v ≡ numbered i (key b i + 65536 * id b i))) r

-- The count of letter k in record i.
unfoldable pub CountReturns : List ℕ → ℕ → ℕ → ℕ → Type 0
CountReturns b i k r = Returned (λ n v. (n ≡ 0) × (v ≡ numbered i (count_at b i k))) r
