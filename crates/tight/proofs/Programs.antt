-- What a program that meets its promises does: it gives the one outcome that each promise allows.
use Prim.Native.Nat.{ℕ, ◌<◌}
use mathlib.Core.Path.{◌≡◌, refl, ◌∙◌, ap, subst}
use mathlib.Core.List.{List, [], ◌∷◌}
use Rattle.index.specs.Wide.{Sent}
use Rattle.index.specs.Calls.{Makes, Sends, WritesSet, ReadsSet}
use Rattle.index.specs.History.{Accepted, Labelled, Statement, History}
use Rattle.index.specs.History.Accepted.{nothing, next}
use Rattle.index.proofs.laws.demands.OneCall.{one_make, one_write, one_read}
use Rattle.index.proofs.laws.message.OneMessage.{one_sent}
use Rattle.index.proofs.laws.demands.Unchanged.{sent_unchanged}
use Rattle.directory.specs.By.{MakesDirectory, SendsBy, ReadBy, WriteBy}
use Rattle.directory.proofs.OneBy.{one_made, one_sent_by, one_read_by, one_write_by}
use Rattle.rights.specs.Questions.{Full, Short, FullBy, ShortBy}
use Rattle.rights.proofs.laws.questions.OneAnswer.{one_full, one_short}
use Rattle.rights.proofs.laws.questions.SameAnswers.{one_full_by, one_short_by}
use Rattle.tight.specs.Programs.{Program, Meets, run, Handed}

module _ (p : Program) (meets : Meets p) where
  -- ---- each call

  pub makes : {b : List ℕ} {o : ℕ × List ℕ} → Makes b o → p.make b ≡ o
  makes {b} {o} h = one_make b (p.make b) o (meets.make b) h

  pub does : {b : List ℕ} {m : Sent} {o : ℕ × List ℕ} → Sends b m o → p.sends b m ≡ o
  does {b} {m} {o} h = one_sent b m (p.sends b m) o (meets.sends b m) h

  pub writes : {b : List ℕ} {kind x : ℕ} {out : List ℕ} {o : ℕ × ℕ × List ℕ} → WritesSet b kind x out o → p.write b kind x out ≡ o
  writes {b} {kind} {x} {out} {o} h = one_write b kind x out (p.write b kind x out) o (meets.write b kind x out) h

  pub reads : {b : List ℕ} {kind x : ℕ} {text : List ℕ} {o : ℕ × ℕ × List ℕ} → ReadsSet b kind x text o → p.read b kind x text ≡ o
  reads {b} {kind} {x} {text} {o} h = one_read b kind x text (p.read b kind x text) o (meets.read b kind x text) h

  pub answers : {b : List ℕ} {u o request profile : ℕ} {a : ℕ × ℕ × ℕ × ℕ} → Full b u o request profile a → p.rights b u o request profile ≡ a
  answers {b} {u} {o} {request} {profile} {a} h = one_full b u o request profile (p.rights b u o request profile) a (meets.rights b u o request profile) h

  pub says : {b : List ℕ} {u o request profile : ℕ} {a : ℕ × ℕ} → Short b u o request profile a → p.may b u o request profile ≡ a
  says {b} {u} {o} {request} {profile} {a} h = one_short b u o request profile (p.may b u o request profile) a (meets.may b u o request profile) h

  -- ---- each call by a directory

  pub makes_directory : {b d : List ℕ} {o : ℕ × List ℕ} → MakesDirectory b d o → p.directory b d ≡ o
  makes_directory {b} {d} {o} h = one_made b d (p.directory b d) o (meets.directory b d) h

  pub does_by : {b d : List ℕ} {m : Sent} {o : ℕ × ℕ × List ℕ × List ℕ} → SendsBy b d m o → p.sends_by b d m ≡ o
  does_by {b} {d} {m} {o} h = one_sent_by b d m (p.sends_by b d m) o (meets.sends_by b d m) h

  pub writes_by : {b d : List ℕ} {kind x : ℕ} {out : List ℕ} {o : ℕ × ℕ × List ℕ} → WriteBy b d kind x out o
      → p.write_by b d kind x out ≡ o
  writes_by {b} {d} {kind} {x} {out} {o} h = one_write_by b d kind x out (p.write_by b d kind x out) o (meets.write_by b d kind x out) h

  pub reads_by : {b d : List ℕ} {kind x : ℕ} {text : List ℕ} {o : ℕ × ℕ × List ℕ × List ℕ} → ReadBy b d kind x text o
      → p.read_by b d kind x text ≡ o
  reads_by {b} {d} {kind} {x} {text} {o} h = one_read_by b d kind x text (p.read_by b d kind x text) o (meets.read_by b d kind x text) h

  pub answers_by : {b d : List ℕ} {u o request profile : ℕ} {a : ℕ × ℕ × ℕ × ℕ} → FullBy b d u o request profile a → p.rights_by b d u o request profile ≡ a
  answers_by {b} {d} {u} {o} {request} {profile} {a} h =
      one_full_by b u o request profile d (p.rights_by b d u o request profile) a (meets.rights_by b d u o request profile) h

  pub says_by : {b d : List ℕ} {u o request profile : ℕ} {a : ℕ × ℕ} → ShortBy b d u o request profile a → p.may_by b d u o request profile ≡ a
  says_by {b} {d} {u} {o} {request} {profile} {a} h = one_short_by b u o request profile d (p.may_by b d u o request profile) a (meets.may_by b d u o request profile) h

  -- ---- messages one after the other

  pub runs : {b b' : List ℕ} (ms : List Sent) → Accepted b ms b' → run p b ms ≡ b'
  runs [] nothing = refl
  runs (m ∷ ms) (next h r) = ap (λ (o : ℕ × List ℕ). run p o.1 ms) (does h) ∙ runs ms r

  -- A refusal leaves the block as it was.
  pub keeps : (b : List ℕ) (m : Sent) → 0 < (p.sends b m).0 → (p.sends b m).1 ≡ b
  keeps b m l = ap (λ (o : ℕ × List ℕ). o.1) (sent_unchanged b m (p.sends b m) (meets.sends b m) l).1

  pub as_history : {b b' : List ℕ} {s s' : List Statement} {ms : List Labelled} → Handed p b s ms b' s' → History b s ms b' s'
  as_history Handed.nothing = History.nothing
  as_history (Handed.accepted {b = b} {m = m} e q h) =
      History.accepted (subst (λ (n : ℕ). Sends b m.sent (n, (p.sends b m.sent).1)) e (meets.sends b m.sent)) q (as_history h)
  as_history (Handed.refused {b = b} {b' = b'} {m = m} {s = s} {s' = s'} {ms = ms} l h) =
      let e = keeps b m.sent l in
      History.refused l (subst (λ (c : List ℕ). Sends b m.sent ((p.sends b m.sent).0, c)) e (meets.sends b m.sent))
      (subst (λ (c : List ℕ). History c s ms b' s') e (as_history h))
