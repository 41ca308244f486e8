-- The pairs of a wide message as a list of changes, which grows pair by pair.
use Prim.Native.Nat.{ℕ, zero, suc, ◌+◌, ◌*◌, ◌<◌}
use mathlib.Core.Path.{◌≡◌, refl, sym, ap, ◌∙◌}
use mathlib.Core.Bool.{Bool, true, false}
use mathlib.Core.List.{List, [], ◌∷◌, ◌++◌, map, map-append, append_assoc, append-nil}
use native.Mathlib.Numerals.{add-one}
use native.Mathlib.Omega.{arith}
use lib.ListN.{length, set, take, length-set}
use lib.Seq.{take-suc, take-set-le, get_or-set_same}
use Rattle.index.specs.declared.Kind.{Kind}
use Rattle.index.specs.Block.{number}
use Rattle.index.specs.Numbers.{Each}
use Rattle.index.specs.Message.{Half, Change, changes, packed_half, packed_change, packed_changes}
use Rattle.index.specs.Message.Change.{add}
use Rattle.index.specs.Wide.{names_from, pairs}
use Rattle.index.specs.work.Edits.{half, change_of, Ready, Prepared}
use Rattle.index.specs.work.Pairing.{Listing}
use Rattle.index.proofs.laws.message.HalfLetters.{half_of}
use Rattle.index.proofs.laws.message.Packing.{half_change, each_prepared}
use Rattle.index.proofs.laws.message.NameLists.{name_at}

-- ---- one more, and more

pub listing_none : (adds : Bool) (i : ℕ) (cs : List ℕ) → Listing adds i i [] cs cs
listing_none adds i cs = record { same_length = refl; changes = sym (append-nil _) }

pub listing_more : {adds : Bool} {i j : ℕ} {hs : List Half} {cs cs' : List ℕ} (v : ℕ) (h : Half) → Listing adds i j hs cs cs' → j < length cs'
    → packed_change v ≡ change_of adds h → Listing adds i (j + 1) (hs ++ (h ∷ [])) cs (set cs' j v)
listing_more {adds} {i} {j} {hs} {cs} {cs'} v h l below e =
    let s : length (set cs' j v) ≡ length cs' = simp length-set in
    let t : take (j + 1) (set cs' j v) ≡ take j cs' ++ (v ∷ []) =
    rw (add-one, take-suc (set cs' j v) j 0 (omega arith), take-set-le j cs' j v (omega arith), get_or-set_same cs' j v 0 below) in
    record { same_length = s ∙ l.same_length; changes = rw (t, map-append, e, l.changes, map-append, append_assoc) }

listing_on : {adds : Bool} {i j k : ℕ} {hs gs : List Half} {cs cs₁ cs₂ : List ℕ} → Listing adds i j hs cs cs₁ → Listing adds j k gs cs₁ cs₂
    → Listing adds i k (hs ++ gs) cs cs₂
listing_on l p = record { same_length = p.same_length ∙ l.same_length; changes = rw (p.changes, l.changes, map-append, append_assoc) }

-- ---- one id more, and one key more

names_more : (m : List ℕ) (i n : ℕ) → names_from m i (n + 1) ≡ names_from m i n ++ (name_at m i n ∷ [])
unfolding names_from
names_more m i n = rw add-one (go i n)
  where
    go : (i n : ℕ) → names_from m i (suc n) ≡ names_from m i n ++ (name_at m i n ∷ [])
    go i zero = let e : i + 2 * 0 ≡ i = omega arith in rw e
    go i (suc n) =
        let e : i + 2 * suc n ≡ i + 2 + 2 * n = omega arith in
        rw e (ap (λ r. number m i ∷ r) (go (i + 2) n))

module _ (adds : Bool) (K : Kind) (mask : ℕ) (m : List ℕ) where
  -- The pairs of one key.
  abbrev row : ℕ → List ℕ → List Half
  row x ys = map (λ y. half K x y mask) ys

  pub row_more : (x ids at i v : ℕ) {cs cs' : List ℕ} → Listing adds at (at + i) (row x (names_from m ids i)) cs cs' → at + i < length cs'
      → packed_change v ≡ change_of adds (half K x (name_at m ids i) mask)
      → Listing adds at (at + (i + 1)) (row x (names_from m ids (i + 1))) cs (set cs' (at + i) v)
  row_more x ids at i v l below e =
      let p : at + (i + 1) ≡ at + i + 1 = omega arith in
      rw (p, names_more m ids i, map-append) (listing_more v (half K x (name_at m ids i) mask) l below e)

  pairs_more : (x : ℕ) (xs ys : List ℕ) → pairs K mask (xs ++ (x ∷ [])) ys ≡ pairs K mask xs ys ++ row x ys
  unfolding pairs
  pairs_more x [] ys = append-nil _
  pairs_more x (x' ∷ xs) ys = rw (pairs_more x xs ys, append_assoc)

  pub key_more : (keys i : ℕ) (ys : List ℕ) {at j k : ℕ} {cs cs₁ cs₂ : List ℕ} → Listing adds at j (pairs K mask (names_from m keys i) ys) cs cs₁
      → Listing adds j k (row (name_at m keys i) ys) cs₁ cs₂ → Listing adds at k (pairs K mask (names_from m keys (i + 1)) ys) cs cs₂
  key_more keys i ys l p = rw (names_more m keys i, pairs_more (name_at m keys i) (names_from m keys i) ys) (listing_on l p)

-- ---- both halves

pub both_listed : (hs gs : List Half) {j k : ℕ} {cs cs₁ cs₂ : List ℕ} → Listing false 0 j hs cs cs₁ → Listing true j k gs cs₁ cs₂
    → packed_changes (take k cs₂) ≡ changes hs gs
unfolding changes
both_listed hs gs l p = rw (p.changes, l.changes)

-- ---- what holds of each half holds of each change as a number

module _ (P : Half → Type 0) where
  packed_from : (cs : List ℕ) (ds : List Change) → packed_changes cs ≡ ds → Each (λ d. P (half_of d)) ds → Each (λ n. P (packed_half n)) cs
  packed_from [] ds e r = tt
  packed_from (n ∷ cs) [] e r = let z : ◌≡◌ {A = ℕ} 0 1 = cc in absurd (omega arith)
  packed_from (n ∷ cs) (d ∷ ds) e r =
      let p : packed_change n ≡ d = cc in
      let q : packed_changes cs ≡ ds = cc in
      (rw (sym (half_change n) ∙ ap half_of p) r.0, packed_from cs ds q r.1)

  each_adds : (gs : List Half) → Each P gs → Each (λ d. P (half_of d)) (map add gs)
  each_adds [] r = tt
  each_adds (g ∷ gs) r = (r.0, each_adds gs r.1)

  each_change : (hs gs : List Half) → Each P (hs ++ gs) → Each (λ d. P (half_of d)) (changes hs gs)
  unfolding changes
  each_change [] gs r = each_adds gs r
  each_change (h ∷ hs) gs r = (r.0, each_change hs gs r.1)

  pub packed_each : (cs : List ℕ) (hs gs : List Half) → packed_changes cs ≡ changes hs gs → Each P (hs ++ gs) → Each (λ n. P (packed_half n)) cs
  packed_each cs hs gs e r = packed_from cs (changes hs gs) e (each_change hs gs r)

-- The list is prepared where each half of the message is ready.
pub prepared_changes : (b cs : List ℕ) (hs gs : List Half) → packed_changes cs ≡ changes hs gs → Each (λ h. Ready h b) (hs ++ gs)
    → Prepared cs b
prepared_changes b cs hs gs e r = each_prepared cs (packed_each (λ h. Ready h b) cs hs gs e r)
