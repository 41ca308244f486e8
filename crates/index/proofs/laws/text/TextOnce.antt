-- A text is written by one set only.
use Prim.Native.Nat.{ℕ}
use mathlib.Core.Path.{◌≡◌, sym, ap, ◌∙◌, subst}
use mathlib.Core.List.{List, []}
use lib.ListN.{length}
use Rattle.index.specs.declared.Kind.{Kind}
use Rattle.index.specs.Text.{Entry, text_of, IsSet, Writes}
use Rattle.index.specs.work.Reading.{parse}
use Rattle.std.specs.Prelude.{Ok}
use Rattle.index.specs.work.Pieces.{Scanned}
use Rattle.index.specs.work.Reading.Parsed.{got, wrong}
use Rattle.index.proofs.laws.text.TakenApart.{not_got}
use Rattle.index.proofs.laws.text.ReadSets.{parse_complete}

-- a text is of one set only
pub text_once : (kind : Kind) (es fs : List Entry) → IsSet kind es → IsSet kind fs → text_of es ≡ text_of fs → es ≡ fs
text_once kind es fs h k e =
    let p = parse_complete kind es h in
    let q = parse_complete kind fs k in
    let r : parse kind (text_of es) ≡ parse kind (text_of fs) = ap (parse kind) e in
    cc

-- where reading is wrong there is no set
pub parse_wrong : (kind : Kind) (t : List ℕ) {s : List ℕ} → parse kind t ≡ wrong s → (es : List Entry) → Writes kind es t → ⊥
unfolding Writes
parse_wrong kind t e es w =
    let p : parse kind t ≡ got es [] = subst (λ (x : List ℕ). parse kind x ≡ got es []) w.1 (parse_complete kind es w.0) in
    not_got (sym e ∙ p)

pub writes_once : (kind : Kind) (t : List ℕ) (es fs : List Entry) → Writes kind es t → Writes kind fs t → es ≡ fs
unfolding Writes
writes_once kind t es fs w v = text_once kind es fs w.0 v.0 (w.1 ∙ sym v.1)

pub scanned_length : (kind : Kind) (t : List ℕ) (n : ℕ) (es : List Entry) → Scanned kind t (Ok n) → Writes kind es t → length es ≡ n
scanned_length kind t n es s w = ap length (writes_once kind t es s.0 w s.1) ∙ s.2
