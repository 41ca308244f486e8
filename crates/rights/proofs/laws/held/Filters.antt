-- What the F records of a name let through, and those of all names that are looked at for an object, by the records' numbers.
use Prim.Native.Nat.{ℕ, ◌<◌}
use mathlib.Core.Path.{refl, sym, subst}
use mathlib.Core.List.{List}
use mathlib.Core.Logic.{◌↔◌, inl, inr, ⊎_elim}
use Rattle.index.specs.declared.Kind.TheVariants.{Membership, Filter}
use Rattle.index.specs.Letters.{right_count}
use Rattle.index.specs.Block.{id, Good, NetAt}
use Rattle.index.specs.work.Places.{At}
use Rattle.rights.specs.Held.{Looked, Passes}
use Rattle.rights.specs.work.Lookup.{EachOf, Lets, LetsBy}
use Rattle.rights.proofs.laws.ByNumber.{is_at, is_where, net_at}
use Rattle.rights.proofs.laws.held.Members.{member_where}

module _ {b : List ℕ} (g : Good b) (k : ℕ) where
  pub lets : k < right_count → (x : ℕ) → EachOf b Filter x (λ i. NetAt b i k) ↔ Lets b x k
  lets h x = (
    (λ each y is. let w = is_where g Filter is in (net_at g Filter k h w.1).0 (each w.0 w.1.of w.1.has_key)),
    (λ all i of e.
        let a : At b Filter x (id b i) i = record { of = of; has_key = e; has_id = refl } in
        (net_at g Filter k h a).1 (all (id b i) (is_at g Filter a))),
  )

  pub passes : (o : ℕ) → (EachOf b Membership o (λ i. LetsBy b i k) × Lets b o k) ↔ Passes b o k
  unfolding Looked Passes
  passes o = (
    (λ p x l.
        ⊎_elim (λ e. subst (λ (n : ℕ). Lets b n k) (sym e) p.1)
        (λ m.
        let w = member_where g m in
        subst (λ (n : ℕ). Lets b n k) w.1.has_id (p.0 w.0 w.1.of w.1.has_key (rw (w.1.has_key, w.1.has_id) m)))
        l),
    (λ p. ((λ i of e m. p (id b i) (inr (rw e at m))), p o (inl refl))),
  )
