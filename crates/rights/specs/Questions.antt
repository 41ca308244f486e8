-- 01, "The rights": the two questions, and the numbers they give; M-112 for the profile, M-109 for the records examined, M-106 for a directory.
use Rattle.std.specs.Prelude.{ℕ, ◌<◌, ◌≤◌, ◌≡◌, Bool, List, [], ◌∷◌, ◌++◌, ◌↔◌, Result}
use Rattle.index.specs.Letters.{right_count, all_rights, In, Mask}
use Rattle.index.specs.declared.refusals.Refusal.{Refusal}
use Rattle.index.specs.Numbers.{First, number, Means, yes_no}
use Rattle.index.specs.Block.{IsName}
use Rattle.index.specs.Calls.{block_needs}
use Rattle.directory.specs.By.{By}
use Rattle.rights.specs.declared.grants.Reach.{Reach}
use Rattle.rights.specs.declared.Profile.{Profile}
use Rattle.rights.specs.Held.{chain_limit}
use Rattle.rights.specs.Profiles.{HoldsIn, IsProfile, profile_of}
use Rattle.rights.specs.Examined.{Examined, round_count}

-- 4: "a name above 1023"; 5: "request 0 or above 15".
abbrev pub ask_needs : ℕ → ℕ → ℕ → List (ℕ × Type 0)
ask_needs u o request = (4, IsName u × IsName o) ∷ (5, (1 ≤ request) × (request ≤ all_rights)) ∷ []

-- M-112: "a profile other than ordinary or strict is 15, last".
abbrev pub profile_needs : ℕ → List (ℕ × Type 0)
profile_needs profile = (15, IsProfile profile) ∷ []

-- Before them come 1 and 2 of the block. Last of all a question has one requirement more, with its number.
abbrev pub last_needs : List ℕ → ℕ → ℕ → ℕ → ℕ → Type 0 → List (ℕ × Type 0)
last_needs b u o request number Last = block_needs b ++ (ask_needs u o request ++ ((number, Last) ∷ []))

unfoldable pub question_needs : List ℕ → ℕ → ℕ → ℕ → ℕ → List (ℕ × Type 0)
question_needs b u o request profile = last_needs b u o request 15 (IsProfile profile)

-- "the rights held, limited to the rights requested", in a profile, with chains of at most n records
unfoldable pub Limited : Profile → ℕ → List ℕ → ℕ → ℕ → ℕ → ℕ → Type 0
Limited p n b u o request mask = Mask mask (λ k. HoldsIn p n b u o k × In k request)

-- An accepted full question: the number 0, the rights, and, M-109: "the number of membership records examined, one for the user's
-- side and one for the object's", which are the same in every profile.
abbrev pub Reports : Profile → List ℕ → ℕ → ℕ → ℕ → (ℕ × ℕ × ℕ × ℕ) → Type 0
Reports p b u o request a =
    (a.0 ≡ 0) × Limited p chain_limit b u o request a.1 × Examined b u round_count a.2 × Examined b o round_count a.3

-- A refused one: no right, and, M-109: "A refused call reports 0."
abbrev pub unreported : ℕ → ℕ × ℕ × ℕ × ℕ
unreported n = (n, 0, 0, 0)

-- The full question: the number, the rights, and the numbers of records examined on the user's side and on the object's.
unfoldable pub Full : List ℕ → ℕ → ℕ → ℕ → ℕ → (ℕ × ℕ × ℕ × ℕ) → Type 0
Full b u o request profile a =
    First unreported (question_needs b u o request profile) (Reports (profile_of profile) b u o request) a

-- "every requested right is held", in a profile
unfoldable pub HoldsAll : Profile → List ℕ → ℕ → ℕ → ℕ → Type 0
HoldsAll p b u o request = (k : ℕ) → k < right_count → In k request → HoldsIn p chain_limit b u o k

-- An accepted question with yes or no: the number 0, and 1 for yes, exactly when P holds, or 0 for no.
abbrev pub YesWhen : Type 0 → (ℕ × ℕ) → Type 0
YesWhen P a = (a.0 ≡ 0) × (a.1 < 2) × ((a.1 ≡ 1) ↔ P)

-- An accepted short question: "yes exactly when every requested right is held".
abbrev pub Answered : Profile → List ℕ → ℕ → ℕ → ℕ → (ℕ × ℕ) → Type 0
Answered p b u o request a = YesWhen (HoldsAll p b u o request) a

-- The short question: the number, and 1 for yes or 0 for no.
unfoldable pub Short : List ℕ → ℕ → ℕ → ℕ → ℕ → (ℕ × ℕ) → Type 0
Short b u o request profile a =
    First (λ n. (n, 0)) (question_needs b u o request profile) (Answered (profile_of profile) b u o request) a

-- M-106: the two questions by a directory. "Answers through the directory are proved equal to answers without it".
unfoldable pub FullBy : List ℕ → List ℕ → ℕ → ℕ → ℕ → ℕ → (ℕ × ℕ × ℕ × ℕ) → Type 0
FullBy b d u o request profile a = By b d unreported (Full b u o request profile) a

unfoldable pub ShortBy : List ℕ → List ℕ → ℕ → ℕ → ℕ → ℕ → (ℕ × ℕ) → Type 0
ShortBy b d u o request profile a = By b d (λ n. (n, 0)) (Short b u o request profile) a

-- ---- what an answer of the code stands for: 01's number, and its values, which are an outcome of the call

-- The rights, and the numbers of records examined on the user's side and on the object's.
abbrev pub reach_value : Reach → ℕ × ℕ × ℕ
reach_value reach = (reach.rights, reach.user, reach.object)

abbrev pub RightsMean : (ℕ × ℕ × ℕ × ℕ → Type 0) → Result Reach Refusal → Type 0
RightsMean Outcome r = Means reach_value (0, 0, 0) (λ o. Outcome (o.0, o.1.0, o.1.1, o.1.2)) r

abbrev pub AnswerMeans : (ℕ × ℕ → Type 0) → Result Bool Refusal → Type 0
AnswerMeans Outcome r = Means yes_no 0 Outcome r

abbrev pub GivenMeans : (ℕ × ℕ → Type 0) → Result ℕ Refusal → Type 0
GivenMeans Outcome r = Means (λ mask. mask) 0 Outcome r

unfoldable pub Asks : List ℕ → ℕ → ℕ → ℕ → ℕ → Result Reach Refusal → Type 0
Asks b u o request profile r = RightsMean (Full b u o request profile) r

unfoldable pub AsksBy : List ℕ → List ℕ → ℕ → ℕ → ℕ → ℕ → Result Reach Refusal → Type 0
AsksBy b d u o request profile r = RightsMean (FullBy b d u o request profile) r

unfoldable pub AsksAll : List ℕ → ℕ → ℕ → ℕ → ℕ → Result Bool Refusal → Type 0
AsksAll b u o request profile r = AnswerMeans (Short b u o request profile) r

unfoldable pub AsksAllBy : List ℕ → List ℕ → ℕ → ℕ → ℕ → ℕ → Result Bool Refusal → Type 0
AsksAllBy b d u o request profile r = AnswerMeans (ShortBy b d u o request profile) r
