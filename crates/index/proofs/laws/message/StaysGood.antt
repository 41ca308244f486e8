-- Whatever a message's number, the block is good and as long as before.
use Prim.Native.Nat.{ℕ}
use mathlib.Core.Path.{◌≡◌, refl, ◌∙◌}
use mathlib.Core.List.{List}
use lib.ListN.{length}
use Rattle.index.specs.Block.{Good}
use Rattle.index.specs.Message.{changes}
use Rattle.index.specs.Wide.{Sent, previous_of, new_of}
use Rattle.index.specs.Calls.{Sends}
use Rattle.index.proofs.laws.message.OneMessage.{run_cases, sent_cases}

pub stays_good : (b : List ℕ) (m : Sent) (o : ℕ × List ℕ) → Sends b m o → Good b → Good o.1 × (length o.1 ≡ length b)
stays_good b m o h g =
    sent_cases b m (λ o. Good o.1 × (length o.1 ≡ length b)) (λ n l. (g, refl))
    (λ o r.
    run_cases (λ _ cs d o. Good d → length d ≡ length b → Good o.1 × (length o.1 ≡ length b)) b (λ cs d n l k e. (g, refl))
    (λ d k e. (k, e))
    (λ c cs d d₁ o w p k e. p w.good (w.same_length ∙ e))
    (changes (previous_of m) (new_of m)) b o r g refl)
    o h
