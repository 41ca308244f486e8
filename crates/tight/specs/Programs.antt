-- A program for the calls of 01 and of M-100, and for those that M-106 adds: any functions at all. It meets the promises when each of its
-- answers does. The wrong ones that 01, M-100, M-106, M-107 and M-112 turn away.
use Rattle.std.specs.Prelude.{ℕ, ◌<◌, ◌≤◌, ◌≡◌, List, [], ◌∷◌}
use Rattle.index.specs.declared.Kind.{Kind}
use Rattle.index.specs.declared.Kind.TheVariants.{Membership}
use Rattle.index.specs.Letters.{letter_count, marker_x}
use Rattle.index.specs.Block.{records, count}
use Rattle.index.specs.Wide.{Sent, previous_of}
use Rattle.index.specs.Wide.Sent.{plain, wide}
use Rattle.index.specs.Calls.{Makes, Sends, WritesSet, ReadsSet}
use Rattle.index.specs.History.{Labelled, Statement, left, after, tally}
use Rattle.directory.specs.By.{MakesDirectory, SendsBy, ReadBy, WriteBy}
use Rattle.rights.specs.Profiles.{ordinary, strict, IsProfile}
use Rattle.rights.specs.Questions.{Full, Short, FullBy, ShortBy}

-- Each call gives the number, the value, if it has one, and the lent bytes then, if it may change any; the full question has three
-- values, the rights and how many M records were examined on the user's side and on the object's. A message is sent by one of two calls,
-- for plain and for wide ones. (By a directory it has the value 0, since it shares its promise with a read.)
pub record Program : Type 0 where
  pub make : (block : List ℕ) → ℕ × List ℕ
  pub sends : (block : List ℕ) (message : Sent) → ℕ × List ℕ
  pub write : (block : List ℕ) (kind key : ℕ) (out : List ℕ) → ℕ × ℕ × List ℕ
  pub read : (block : List ℕ) (kind key : ℕ) (text : List ℕ) → ℕ × ℕ × List ℕ
  pub rights : (block : List ℕ) (user object request profile : ℕ) → ℕ × ℕ × ℕ × ℕ
  pub may : (block : List ℕ) (user object request profile : ℕ) → ℕ × ℕ
  pub directory : (block directory : List ℕ) → ℕ × List ℕ
  pub sends_by : (block directory : List ℕ) (message : Sent) → ℕ × ℕ × List ℕ × List ℕ
  pub write_by : (block directory : List ℕ) (kind key : ℕ) (out : List ℕ) → ℕ × ℕ × List ℕ
  pub read_by : (block directory : List ℕ) (kind key : ℕ) (text : List ℕ) → ℕ × ℕ × List ℕ × List ℕ
  pub rights_by : (block directory : List ℕ) (user object request profile : ℕ) → ℕ × ℕ × ℕ × ℕ
  pub may_by : (block directory : List ℕ) (user object request profile : ℕ) → ℕ × ℕ

pub record Meets (p : Program) : Type 0 where
  pub make : (b : List ℕ) → Makes b (p.make b)
  pub sends : (b : List ℕ) (m : Sent) → Sends b m (p.sends b m)
  pub write : (b : List ℕ) (kind x : ℕ) (out : List ℕ) → WritesSet b kind x out (p.write b kind x out)
  pub read : (b : List ℕ) (kind x : ℕ) (text : List ℕ) → ReadsSet b kind x text (p.read b kind x text)
  pub rights : (b : List ℕ) (u o request profile : ℕ) → Full b u o request profile (p.rights b u o request profile)
  pub may : (b : List ℕ) (u o request profile : ℕ) → Short b u o request profile (p.may b u o request profile)
  pub directory : (b d : List ℕ) → MakesDirectory b d (p.directory b d)
  pub sends_by : (b d : List ℕ) (m : Sent) → SendsBy b d m (p.sends_by b d m)
  pub write_by : (b d : List ℕ) (kind x : ℕ) (out : List ℕ) → WriteBy b d kind x out (p.write_by b d kind x out)
  pub read_by : (b d : List ℕ) (kind x : ℕ) (text : List ℕ) → ReadBy b d kind x text (p.read_by b d kind x text)
  pub rights_by : (b d : List ℕ) (u o request profile : ℕ) → FullBy b d u o request profile (p.rights_by b d u o request profile)
  pub may_by : (b d : List ℕ) (u o request profile : ℕ) → ShortBy b d u o request profile (p.may_by b d u o request profile)

-- The block after the program has had the messages, one after the other.
abbrev pub run : Program → List ℕ → List Sent → List ℕ
run p b [] = b
run p b (m ∷ ms) = run p (p.sends b m).1 ms

-- ---- "Five empty programs have to be turned away."

-- "One that refuses everything": some call of it refuses every input; a question, in some profile.
pub data RefusesEverything (p : Program) : Type 0 where
  makes : ((b : List ℕ) → 0 < (p.make b).0) → RefusesEverything p
  messages : ((b m : List ℕ) → 0 < (p.sends b (plain m)).0) → RefusesEverything p
  wides : ((b m : List ℕ) → 0 < (p.sends b (wide m)).0) → RefusesEverything p
  writes : ((b : List ℕ) (kind x : ℕ) (out : List ℕ) → 0 < (p.write b kind x out).0) → RefusesEverything p
  reads : ((b : List ℕ) (kind x : ℕ) (text : List ℕ) → 0 < (p.read b kind x text).0) → RefusesEverything p
  full : (profile : ℕ) → IsProfile profile → ((b : List ℕ) (u o request : ℕ) → 0 < (p.rights b u o request profile).0) → RefusesEverything p
  short : (profile : ℕ) → IsProfile profile → ((b : List ℕ) (u o request : ℕ) → 0 < (p.may b u o request profile).0) → RefusesEverything p
  directories : ((b d : List ℕ) → 0 < (p.directory b d).0) → RefusesEverything p
  messages_by : ((b d m : List ℕ) → 0 < (p.sends_by b d (plain m)).0) → RefusesEverything p
  wides_by : ((b d m : List ℕ) → 0 < (p.sends_by b d (wide m)).0) → RefusesEverything p
  writes_by : ((b d : List ℕ) (kind x : ℕ) (out : List ℕ) → 0 < (p.write_by b d kind x out).0) → RefusesEverything p
  reads_by : ((b d : List ℕ) (kind x : ℕ) (text : List ℕ) → 0 < (p.read_by b d kind x text).0) → RefusesEverything p
  full_by : (profile : ℕ) → IsProfile profile → ((b d : List ℕ) (u o request : ℕ) → 0 < (p.rights_by b d u o request profile).0) → RefusesEverything p
  short_by : (profile : ℕ) → IsProfile profile → ((b d : List ℕ) (u o request : ℕ) → 0 < (p.may_by b d u o request profile).0) → RefusesEverything p

-- "One that grants the same mask always", in some profile, or gives the same answer to each short question that it accepts in it, or reports
-- the same number of records examined on one of the sides.
pub data AnswersTheSame (p : Program) : Type 0 where
  full : (profile mask : ℕ) → IsProfile profile
      → ((b : List ℕ) (u o request : ℕ) → (p.rights b u o request profile).0 ≡ 0 → (p.rights b u o request profile).1 ≡ mask) → AnswersTheSame p
  user : (profile n : ℕ) → IsProfile profile
      → ((b : List ℕ) (u o request : ℕ) → (p.rights b u o request profile).0 ≡ 0 → (p.rights b u o request profile).2 ≡ n) → AnswersTheSame p
  object : (profile n : ℕ) → IsProfile profile
      → ((b : List ℕ) (u o request : ℕ) → (p.rights b u o request profile).0 ≡ 0 → (p.rights b u o request profile).3 ≡ n) → AnswersTheSame p
  short : (profile answer : ℕ) → IsProfile profile
      → ((b : List ℕ) (u o request : ℕ) → (p.may b u o request profile).0 ≡ 0 → (p.may b u o request profile).1 ≡ answer) → AnswersTheSame p
  full_by : (profile mask : ℕ) → IsProfile profile
      → ((b d : List ℕ) (u o request : ℕ) → (p.rights_by b d u o request profile).0 ≡ 0 → (p.rights_by b d u o request profile).1 ≡ mask) → AnswersTheSame p
  user_by : (profile n : ℕ) → IsProfile profile
      → ((b d : List ℕ) (u o request : ℕ) → (p.rights_by b d u o request profile).0 ≡ 0 → (p.rights_by b d u o request profile).2 ≡ n) → AnswersTheSame p
  object_by : (profile n : ℕ) → IsProfile profile
      → ((b d : List ℕ) (u o request : ℕ) → (p.rights_by b d u o request profile).0 ≡ 0 → (p.rights_by b d u o request profile).3 ≡ n) → AnswersTheSame p
  short_by : (profile answer : ℕ) → IsProfile profile
      → ((b d : List ℕ) (u o request : ℕ) → (p.may_by b d u o request profile).0 ≡ 0 → (p.may_by b d u o request profile).1 ≡ answer) → AnswersTheSame p

-- "One whose messages change nothing", or some other call that is to write lent bytes and never does.
pub data ChangesNothing (p : Program) : Type 0 where
  makes : ((b : List ℕ) → (p.make b).1 ≡ b) → ChangesNothing p
  messages : ((b m : List ℕ) → (p.sends b (plain m)).1 ≡ b) → ChangesNothing p
  wides : ((b m : List ℕ) → (p.sends b (wide m)).1 ≡ b) → ChangesNothing p
  writes : ((b : List ℕ) (kind x : ℕ) (out : List ℕ) → (p.write b kind x out).2 ≡ out) → ChangesNothing p
  reads : ((b : List ℕ) (kind x : ℕ) (text : List ℕ) → (p.read b kind x text).2 ≡ b) → ChangesNothing p
  directories : ((b d : List ℕ) → (p.directory b d).1 ≡ d) → ChangesNothing p
  messages_by : ((b d m : List ℕ) → (p.sends_by b d (plain m)).2 ≡ b) → ChangesNothing p
  wides_by : ((b d m : List ℕ) → (p.sends_by b d (wide m)).2 ≡ b) → ChangesNothing p
  writes_by : ((b d : List ℕ) (kind x : ℕ) (out : List ℕ) → (p.write_by b d kind x out).2 ≡ out) → ChangesNothing p
  reads_by : ((b d : List ℕ) (kind x : ℕ) (text : List ℕ) → (p.read_by b d kind x text).2 ≡ b) → ChangesNothing p

-- M-106: "A message or a read keeps the directory true": one that leaves it as it was.
pub data LeavesBehind (p : Program) : Type 0 where
  messages : ((b d m : List ℕ) → (p.sends_by b d (plain m)).3 ≡ d) → LeavesBehind p
  wides : ((b d m : List ℕ) → (p.sends_by b d (wide m)).3 ≡ d) → LeavesBehind p
  reads : ((b d : List ℕ) (kind x : ℕ) (text : List ℕ) → (p.read_by b d kind x text).3 ≡ d) → LeavesBehind p

-- M-106: "13": one that takes any directory, in some call.
pub data TakesAny (p : Program) : Type 0 where
  directories : ((b d : List ℕ) → (p.directory b d).0 ≡ 13 → ⊥) → TakesAny p
  messages : ((b d m : List ℕ) → (p.sends_by b d (plain m)).0 ≡ 13 → ⊥) → TakesAny p
  wides : ((b d m : List ℕ) → (p.sends_by b d (wide m)).0 ≡ 13 → ⊥) → TakesAny p
  writes : ((b d : List ℕ) (kind x : ℕ) (out : List ℕ) → (p.write_by b d kind x out).0 ≡ 13 → ⊥) → TakesAny p
  reads : ((b d : List ℕ) (kind x : ℕ) (text : List ℕ) → (p.read_by b d kind x text).0 ≡ 13 → ⊥) → TakesAny p
  full : ((b d : List ℕ) (u o request profile : ℕ) → (p.rights_by b d u o request profile).0 ≡ 13 → ⊥) → TakesAny p
  short : ((b d : List ℕ) (u o request profile : ℕ) → (p.may_by b d u o request profile).0 ≡ 13 → ⊥) → TakesAny p

-- M-107: one that pays no heed to markers. On two blocks in which every letter counts the same, markers aside, it gives the same rights, or
-- the same short answer, in some profile.
abbrev pub SameLetters : List ℕ → List ℕ → Type 0
SameLetters b b' = (kind : Kind) (x y k : ℕ) → k < marker_x → count b kind x y k ≡ count b' kind x y k

pub data IgnoresMarkers (p : Program) : Type 0 where
  full : (profile : ℕ) → IsProfile profile
      → ((b b' : List ℕ) → SameLetters b b' → (u o request : ℕ) → (p.rights b u o request profile).1 ≡ (p.rights b' u o request profile).1)
      → IgnoresMarkers p
  short : (profile : ℕ) → IsProfile profile
      → ((b b' : List ℕ) → SameLetters b b' → (u o request : ℕ) → (p.may b u o request profile).1 ≡ (p.may b' u o request profile).1)
      → IgnoresMarkers p

-- M-112: one to which the profile is all the same: it gives the same rights, or the same short answer, in both, in some call.
pub data IgnoresProfile (p : Program) : Type 0 where
  full : ((b : List ℕ) (u o request : ℕ) → (p.rights b u o request ordinary).1 ≡ (p.rights b u o request strict).1) → IgnoresProfile p
  short : ((b : List ℕ) (u o request : ℕ) → (p.may b u o request ordinary).1 ≡ (p.may b u o request strict).1) → IgnoresProfile p
  full_by : ((b d : List ℕ) (u o request : ℕ) → (p.rights_by b d u o request ordinary).1 ≡ (p.rights_by b d u o request strict).1)
      → IgnoresProfile p
  short_by : ((b d : List ℕ) (u o request : ℕ) → (p.may_by b d u o request ordinary).1 ≡ (p.may_by b d u o request strict).1)
      → IgnoresProfile p

-- M-112: "a profile other than ordinary or strict is 15": one that accepts some question in a profile that is neither, in some call.
pub data TakesAnyProfile (p : Program) : Type 0 where
  full : (b : List ℕ) (u o request profile : ℕ) → (IsProfile profile → ⊥) → (p.rights b u o request profile).0 ≡ 0 → TakesAnyProfile p
  short : (b : List ℕ) (u o request profile : ℕ) → (IsProfile profile → ⊥) → (p.may b u o request profile).0 ≡ 0 → TakesAnyProfile p
  full_by : (b d : List ℕ) (u o request profile : ℕ) → (IsProfile profile → ⊥) → (p.rights_by b d u o request profile).0 ≡ 0
      → TakesAnyProfile p
  short_by : (b d : List ℕ) (u o request profile : ℕ) → (IsProfile profile → ⊥) → (p.may_by b d u o request profile).0 ≡ 0
      → TakesAnyProfile p

-- M-107: "Markers are taken and added with the letters": one whose messages, plain or wide, leave the count of every marker as it was.
abbrev pub SameMarkers : List ℕ → List ℕ → Type 0
SameMarkers b b' = (x y k : ℕ) → marker_x ≤ k → k < letter_count → count b' Membership x y k ≡ count b Membership x y k

pub data KeepsMarkers (p : Program) : Type 0 where
  messages : ((b m : List ℕ) → SameMarkers b (p.sends b (plain m)).1) → KeepsMarkers p
  wides : ((b m : List ℕ) → SameMarkers b (p.sends b (wide m)).1) → KeepsMarkers p

-- M-100: "a wide statement counts once in each of its pairs": one that counts it once for all of them, so that a block without records has
-- one at most after a wide message.
abbrev pub OnceForAll : Program → Type 0
OnceForAll p = (b m : List ℕ) → records b ≡ 0 → records (p.sends b (wide m)).1 ≤ 1

-- "no lent byte changes": one that refuses some message, and leaves what it had done of it before.
pub record LeavesHalfDone (p : Program) : Type 0 where
  pub block : List ℕ
  pub message : Sent
  pub refused : 0 < (p.sends block message).0
  pub changed : (p.sends block message).1 ≡ block → ⊥

-- "one that works at the first message and then only says accepted", in plain messages or in wide ones: a block with a record in it is past
-- its first message.
pub data OnlyTheFirst (p : Program) : Type 0 where
  messages : ((b m : List ℕ) → 0 < records b → p.sends b (plain m) ≡ (0, b)) → OnlyTheFirst p
  wides : ((b m : List ℕ) → 0 < records b → p.sends b (wide m) ≡ (0, b)) → OnlyTheFirst p

-- What the program does with a history. It is handed messages one after the other, each of which "quotes as its previous state
-- just what the last accepted message of the same statement left".
pub data Handed (p : Program) : List ℕ → List Statement → List Labelled → List ℕ → List Statement → Type 0 where
  nothing : {b : List ℕ} {s : List Statement} → Handed p b s [] b s
  accepted : {b b' : List ℕ} {m : Labelled} {s s' : List Statement} {ms : List Labelled} → (p.sends b m.sent).0 ≡ 0
      → previous_of m.sent ≡ left m.label s → Handed p (p.sends b m.sent).1 (after m s) ms b' s' → Handed p b s (m ∷ ms) b' s'
  refused : {b b' : List ℕ} {m : Labelled} {s s' : List Statement} {ms : List Labelled} → 0 < (p.sends b m.sent).0
      → Handed p (p.sends b m.sent).1 s ms b' s' → Handed p b s (m ∷ ms) b' s'

-- "One that stores made-up counts, say 1 for any": after some history, some count is not the number of statements standing.
pub record MakesUpCounts (p : Program) : Type 0 where
  pub lent : List ℕ
  pub made : (p.make lent).0 ≡ 0
  pub messages : List Labelled
  pub block : List ℕ
  pub statements : List Statement
  pub handed : Handed p (p.make lent).1 [] messages block statements
  pub kind : Kind
  pub key : ℕ
  pub id : ℕ
  pub letter : ℕ
  pub is_letter : letter < letter_count
  pub differs : count block kind key id letter ≡ tally statements kind key id letter → ⊥
