-- M-106: "13, after 2". The tests of each call by a directory as one list: those of the block, 13, and then the call's own.
use Prim.Native.Nat.{ℕ}
use mathlib.Core.Path.{◌≡◌, ap}
use mathlib.Core.List.{List, [], ◌∷◌, ◌++◌}
use mathlib.Core.Logic.{◌↔◌, inl, inr}
use Rattle.index.specs.Numbers.{First, Each}
use Rattle.index.specs.Block.{IsName}
use Rattle.index.specs.Message.{IsKind, kind_of, changes, Named, Masked, Carried}
use Rattle.index.specs.Wide.{Sent, previous_of, new_of, FormedOf}
use Rattle.index.specs.Calls.{block_needs, sent_needs, set_needs, Sends, ReadsText, ReadsSet}
use Rattle.directory.specs.Directory.{Own}
use Rattle.directory.specs.By.{directory_needs, By, KeptBy, SendsBy, ReadBy}
use Rattle.directory.proofs.OneDirectory.{one_directory}

module _ {O : Type 0} (b d : List ℕ) (refused : ℕ → O) (ts : List (ℕ × Type 0)) (accepted : O → Type 0) (o : O) where
  -- Of a call with the requirements ts after those of the block.
  pub in_order : By b d refused (First refused (block_needs b ++ ts) accepted) o
      ↔ First refused (block_needs b ++ ((13, Own b d) ∷ ts)) accepted o
  unfolding By directory_needs block_needs
  in_order = (there, back)
    where
      there : By b d refused (First refused (block_needs b ++ ts) accepted) o
          → First refused (block_needs b ++ ((13, Own b d) ∷ ts)) accepted o
      there (inl p) = inl p
      there (inr (s, inl p)) = inr (s, inl p)
      there (inr (s, inr (g, inl p))) = inr (s, inr (g, inl p))
      there (inr (s, inr (g, inr (w, inl p)))) = absurd (p.0 s)
      there (inr (s, inr (g, inr (w, inr (s', inl p))))) = absurd (p.0 g)
      there (inr (s, inr (g, inr (w, inr (s', inr (g', p)))))) = inr (s, inr (g, inr (w, p)))

      back : First refused (block_needs b ++ ((13, Own b d) ∷ ts)) accepted o
          → By b d refused (First refused (block_needs b ++ ts) accepted) o
      back (inl p) = inl p
      back (inr (s, inl p)) = inr (s, inl p)
      back (inr (s, inr (g, inl p))) = inr (s, inr (g, inl p))
      back (inr (s, inr (g, inr (w, p)))) = inr (s, inr (g, inr (w, inr (s, inr (g, p)))))

-- Of a call that changes the block: an outcome o is one of the call without the directory, and something beside it. A refusal is one of the
-- call, and what then stands beside it.
module _ {O R : Type 0} (front : O → R) (Beside : O → Type 0) (refused : ℕ → O) (plain : ℕ → R) (b d : List ℕ)
    (whole : Own b d → (n : ℕ) (o : O) → front o ≡ plain n → Beside o → o ≡ refused n)
    (apart : Own b d → (n : ℕ) (o : O) → o ≡ refused n → (front o ≡ plain n) × Beside o)
    (accepted : R → Type 0) (o : O) where
  together : (ts : List (ℕ × Type 0)) → Own b d → First plain ts accepted (front o) × Beside o
      → First refused ts (λ o. accepted (front o) × Beside o) o
  together [] own p = p
  together (t ∷ ts) own (inl (fails, e), side) = inl (fails, whole own t.0 o e side)
  together (t ∷ ts) own (inr (holds, p), side) = inr (holds, together ts own (p, side))

  taken_apart : (ts : List (ℕ × Type 0)) → Own b d → First refused ts (λ o. accepted (front o) × Beside o) o
      → First plain ts accepted (front o) × Beside o
  taken_apart [] own p = p
  taken_apart (t ∷ ts) own (inl (fails, e)) = let (f, side) = apart own t.0 o e in (inl (fails, f), side)
  taken_apart (t ∷ ts) own (inr (holds, p)) = let (q, side) = taken_apart ts own p in (inr (holds, q), side)

  module _ (ts : List (ℕ × Type 0)) (Call : O → Type 0) (is : Call o ↔ (First plain (block_needs b ++ ts) accepted (front o) × Beside o)) where
    pub kept_in_order : By b d refused Call o ↔ First refused (block_needs b ++ ((13, Own b d) ∷ ts)) (λ o. accepted (front o) × Beside o) o
    unfolding By directory_needs block_needs
    kept_in_order =
        let flat = in_order b d refused ts (λ o. accepted (front o) × Beside o) o in (λ p. flat.0 (there p), λ p. back (flat.1 p))
      where
        there : By b d refused Call o → By b d refused (First refused (block_needs b ++ ts) (λ o. accepted (front o) × Beside o)) o
        there (inl p) = inl p
        there (inr (s, inl p)) = inr (s, inl p)
        there (inr (s, inr (g, inl p))) = inr (s, inr (g, inl p))
        there (inr (s, inr (g, inr (w, p)))) = inr (s, inr (g, inr (w, together (block_needs b ++ ts) w (is.0 p))))

        back : By b d refused (First refused (block_needs b ++ ts) (λ o. accepted (front o) × Beside o)) o → By b d refused Call o
        back (inl p) = inl p
        back (inr (s, inl p)) = inr (s, inl p)
        back (inr (s, inr (g, inl p))) = inr (s, inr (g, inl p))
        back (inr (s, inr (g, inr (w, p)))) = inr (s, inr (g, inr (w, is.1 (taken_apart (block_needs b ++ ts) w p))))

-- ---- the calls

module _ (b d : List ℕ) (o : ℕ × ℕ × List ℕ × List ℕ) where
  -- The block is as it was, and so is its one directory.
  as_it_came : {b' d' : List ℕ} → Own b d → b' ≡ b → Own b' d' → d' ≡ d
  as_it_came own e own' = one_directory (rw e at own') own

  left : {n : ℕ} {o : ℕ × ℕ × List ℕ × List ℕ} → Own b d → o ≡ (n, 0, b, d) → Own o.2 o.3
  left own e = rw (ap (λ (r : ℕ × ℕ × List ℕ × List ℕ). r.2) e, ap (λ (r : ℕ × ℕ × List ℕ × List ℕ). r.3) e) own

  pub sent_in_order : (m : Sent) → SendsBy b d m o
      ↔ First (λ n. (n, 0, b, d))
      (block_needs b
      ++ ((13, Own b d)
      ∷ (3, FormedOf m)
      ∷ (4, Each Named (previous_of m ++ new_of m))
      ∷ (5, Each Masked (previous_of m ++ new_of m))
      ∷ []))
      (λ o. Carried b (changes (previous_of m) (new_of m)) b (o.0, o.2) × ((o.1 ≡ 0) × Own o.2 o.3)) o
  unfolding SendsBy KeptBy Sends sent_needs
  sent_in_order m =
      kept_in_order {O = ℕ × ℕ × List ℕ × List ℕ} {R = ℕ × List ℕ} (λ o. (o.0, o.2)) (λ o. (o.1 ≡ 0) × Own o.2 o.3) (λ n. (n, 0, b, d))
      (λ n. (n, b)) b d
      (λ own n o e side.
      let same = as_it_came own (ap (λ (r : ℕ × List ℕ). r.1) e) side.1 in
      λ i. ((e i).0, side.0 i, (e i).1, same i))
      (λ own n o e. (λ i. ((e i).0, (e i).2), (λ i. (e i).1, left own e))) (Carried b (changes (previous_of m) (new_of m)) b) o
      ((3, FormedOf m) ∷ (4, Each Named (previous_of m ++ new_of m)) ∷ (5, Each Masked (previous_of m ++ new_of m)) ∷ [])
      (λ o. ((o.1 ≡ 0) × Sends b m (o.0, o.2)) × Own o.2 o.3)
      (λ p. (p.0.1, (p.0.0, p.1)), λ p. ((p.1.0, p.0), p.1.1))

  pub read_in_order : (kind x : ℕ) (text : List ℕ) → ReadBy b d kind x text o
      ↔ First (λ n. (n, 0, b, d)) (block_needs b ++ ((13, Own b d) ∷ (3, IsKind kind) ∷ (4, IsName x) ∷ []))
      (λ o. ReadsText b (kind_of kind) x text (o.0, o.1, o.2) × Own o.2 o.3) o
  unfolding ReadBy KeptBy ReadsSet set_needs
  read_in_order kind x text =
      kept_in_order {O = ℕ × ℕ × List ℕ × List ℕ} {R = ℕ × ℕ × List ℕ} (λ o. (o.0, o.1, o.2)) (λ o. Own o.2 o.3) (λ n. (n, 0, b, d))
      (λ n. (n, 0, b)) b d
      (λ own n o e side.
      let same = as_it_came own (ap (λ (r : ℕ × ℕ × List ℕ). r.2) e) side in
      λ i. ((e i).0, (e i).1, (e i).2, same i))
      (λ own n o e. (λ i. ((e i).0, (e i).1, (e i).2), left own e)) (ReadsText b (kind_of kind) x text) o ((3, IsKind kind) ∷ (4, IsName x) ∷ [])
      (λ o. ReadsSet b kind x text (o.0, o.1, o.2) × Own o.2 o.3) (λ p. p, λ p. p)
