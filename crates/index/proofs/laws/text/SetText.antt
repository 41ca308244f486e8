-- The text of a set, from one of its records on.
use mathlib.Core.Path.{◌≡◌, refl, sym, ap}
use mathlib.Core.Bool.{Bool, true, false}
use mathlib.Core.List.{List, [], ◌∷◌, ◌++◌, append-nil}
use Prim.Native.Nat.{ℕ}
use Rattle.index.specs.Text.{Entry, entry_text, text_of}
use Rattle.index.specs.work.Pieces.{next_text, more, rest}

text_more : (e : Entry) (es : List Entry) → text_of (e ∷ es) ≡ entry_text e ++ more es
unfolding text_of
text_more e [] = sym (append-nil (entry_text e))
text_more e (f ∷ es) = ap (λ (l : List ℕ). entry_text e ++ (59 ∷ l)) (text_more f es)

pub rest_next : (begun : Bool) (e : Entry) (es : List Entry) → rest begun (e ∷ es) ≡ next_text begun e ++ rest true es
rest_next true e es = refl
rest_next false e es = text_more e es

pub rest_none : (begun : Bool) → rest begun [] ≡ []
unfolding text_of
rest_none true = refl
rest_none false = refl
