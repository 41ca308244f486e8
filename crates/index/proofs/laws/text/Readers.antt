-- What a reader tells: what it has read is written so, or can be gone on with; and no byte past the first that it leaves bears
-- on it.
use Prim.Native.Nat.{ℕ}
use mathlib.Core.Path.{◌≡◌, refl, sym, ap, ◌∙◌, subst}
use mathlib.Core.Bool.{Bool, true, false, cond}
use mathlib.Core.List.{List, [], ◌∷◌, ◌++◌, append_assoc, append-nil}
use native.Mathlib.Omega.{arith}
use Rattle.index.specs.work.Reading.{Parsed, and_then}
use Rattle.index.specs.work.Reading.Parsed.{got, wrong}

-- the bytes that are left
abbrev pub left : {A : Type 0} → Parsed A → List ℕ
left (got a s) = s
left (wrong s) = s

-- the same answer, with other bytes left
abbrev pub onto : {A : Type 0} → Parsed A → List ℕ → Parsed A
onto (got a s) t = got a t
onto (wrong s) t = wrong t

-- the first byte, if there is one
abbrev pub head : List ℕ → List ℕ
head [] = []
head (b ∷ t) = b ∷ []

-- Some a is written as u and more bytes. W a u says that a is written as u.
abbrev pub Begun : (A : Type 0) → (A → List ℕ → Type 0) → List ℕ → Type 0
Begun A W u = (a : A) × (more : List ℕ) × W a (u ++ more)

-- What was read is written as u; where it is wrong, u can be gone on with.
abbrev pub Means : (A : Type 0) → (A → List ℕ → Type 0) → List ℕ → Parsed A → Type 0
Means A W u (got a s) = W a u
Means A W u (wrong s) = Begun A W u

-- Reading t by f gives x, and the same whatever stands after the first byte that is left.
pub record Tells (A : Type 0) (f : List ℕ → Parsed A) (W : A → List ℕ → Type 0) (t : List ℕ) (x : Parsed A) : Type 0 where
  pub read : List ℕ
  pub split : t ≡ read ++ left x
  pub same : (s : List ℕ) → head s ≡ head (left x) → f (read ++ s) ≡ onto x s
  pub means : Means A W read x

abbrev pub Reader : (A : Type 0) → (List ℕ → Parsed A) → (A → List ℕ → Type 0) → Type 0
Reader A f W = (t : List ℕ) → Tells A f W t (f t)

-- ---- the first byte

head_join : (u s t : List ℕ) → head s ≡ head t → head (u ++ s) ≡ head (u ++ t)
head_join [] s t h = h
head_join (b ∷ u) s t h = refl

head_nil : (s : List ℕ) → head s ≡ [] → s ≡ []
head_nil [] h = refl
head_nil (b ∷ s) h = let z : ◌≡◌ {A = ℕ} 0 1 = cc in absurd (omega arith)

head_byte : (s : List ℕ) (b : ℕ) → head s ≡ b ∷ [] → (r : List ℕ) × (s ≡ b ∷ r)
head_byte [] b h = let z : ◌≡◌ {A = ℕ} 0 1 = cc in absurd (omega arith)
head_byte (c ∷ s) b h = let e : c ≡ b = cc in (s, ap (λ (x : ℕ). x ∷ s) e)

-- ---- what is written

module _ {A : Type 0} (W : A → List ℕ → Type 0) where
  means_after : (u v : List ℕ) (x : Parsed A) → Means A (λ a r. W a (u ++ r)) v x → Means A W (u ++ v) x
  means_after u v (got a s) m = m
  means_after u v (wrong s) (a, more, w) = (a, more, subst (W a) (sym (append_assoc u v more)) w)

  means_begun : (u : List ℕ) (x : Parsed A) → Means A W u x → Begun A W u
  means_begun u (got a s) m = (a, [], subst (W a) (sym (append-nil u)) m)
  means_begun u (wrong s) m = m

  means_as : (Y : A → List ℕ → Type 0) → ((a : A) (u : List ℕ) → W a u → Y a u) → (u : List ℕ) (x : Parsed A) → Means A W u x
      → Means A Y u x
  means_as Y f u (got a s) m = f a u m
  means_as Y f u (wrong s) (a, more, w) = (a, more, f a (u ++ more) w)

-- ---- one reading by another

module _ {A : Type 0} (f : List ℕ → Parsed A) (W : A → List ℕ → Type 0) where
  pub tells_as : (Y : A → List ℕ → Type 0) (t : List ℕ) (x : Parsed A) → ((a : A) (u : List ℕ) → W a u → Y a u) → Tells A f W t x
      → Tells A f Y t x
  tells_as Y t x g l =
      record { read = l.read; split = l.split; same = l.same; means = means_as W Y g l.read x l.means }

  module _ (g : List ℕ → Parsed A) where
    tells_by : (t : List ℕ) (x : Parsed A) → Tells A g W t x → ((s : List ℕ) → head s ≡ head t → f s ≡ g s) → Tells A f W t x
    tells_by t x l e =
        record {
          read = l.read;
          split = l.split;
          same = λ s h.
              e (l.read ++ s) (head_join l.read s (left x) h ∙ ap head (sym l.split)) ∙ l.same s h;
          means = l.means;
        }

    -- where the text has ended
    pub tells_end : (x : Parsed A) → Tells A g W [] x → f [] ≡ g [] → Tells A f W [] x
    tells_end x l e = tells_by [] x l (λ s h. subst (λ (r : List ℕ). f r ≡ g r) (sym (head_nil s h)) e)

    -- where b stands at the front
    module _ (b : ℕ) (t : List ℕ) (x : Parsed A) where
      pub tells_byte : Tells A g W (b ∷ t) x → ((s : List ℕ) → f (b ∷ s) ≡ g (b ∷ s)) → Tells A f W (b ∷ t) x
      tells_byte l e =
          tells_by (b ∷ t) x l (λ s h. let (r, q) = head_byte s b h in subst (λ (r : List ℕ). f r ≡ g r) (sym q) (e r))

      -- and is read
      pub tells_next : Tells A g (λ a u. W a (b ∷ u)) t x → ((s : List ℕ) → f (b ∷ s) ≡ g s) → Tells A f W (b ∷ t) x
      tells_next l e =
          record {
            read = b ∷ l.read;
            split = ap (λ (r : List ℕ). b ∷ r) l.split;
            same = λ s h. e (l.read ++ s) ∙ l.same s h;
            means = means_after W (b ∷ []) l.read x l.means;
          }

-- ---- readers

module _ {A : Type 0} (W : A → List ℕ → Type 0) where
  pub reader_got : (a : A) → W a [] → Reader A (got a) W
  reader_got a w t = record { read = []; split = refl; same = λ s h. refl; means = w }

  pub reader_wrong : Begun A W [] → Reader A wrong W
  reader_wrong w t = record { read = []; split = refl; same = λ s h. refl; means = w }

  pub reader_if : (c : Bool) (a : A) → (c ≡ true → W a []) → (c ≡ false → Begun A W []) → Reader A (λ s. cond c (got a s) (wrong s)) W
  reader_if true a w v = reader_got a (w refl)
  reader_if false a w v = reader_wrong (v refl)

  -- Something is written at all: whatever came of the empty text can be gone on with.
  pub some : (f : List ℕ → Parsed A) → Reader A f W → Begun A W []
  some f k =
      let l = k [] in
      let (a, more, w) = means_begun W l.read (f []) l.means in
      (a, l.read ++ more, w)

  pub reads : (f : List ℕ → Parsed A) → Reader A f W → (t : List ℕ) {a : A} {r : List ℕ} → f t ≡ got a r
      → (u : List ℕ) × (t ≡ u ++ r) × W a u
  reads f k t e = let l = subst (λ (x : Parsed A). Tells A f W t x) e (k t) in (l.read, l.split, l.means)

-- What is read is handed on. Where the first reading is wrong, what it has begun is completed, and something follows that the
-- second reads.
module _ {A C : Type 0} (f : List ℕ → Parsed A) (W : A → List ℕ → Type 0) (Y : C → List ℕ → Type 0) (k : Reader A f W) where
  pub reader_then : (g : A → List ℕ → Parsed C) → ((a : A) (u : List ℕ) → W a u → Reader C (g a) (λ c v. Y c (u ++ v)))
      → Reader C (λ s. and_then (f s) g) Y
  reader_then g m t = go (f t) (k t)
    where
      go : (x : Parsed A) → Tells A f W t x → Tells C (λ s. and_then (f s) g) Y t (and_then x g)
      go (got a s) l =
          let n = m a l.read l.means s in
          record {
            read = l.read ++ n.read;
            split = l.split ∙ ap (λ (r : List ℕ). l.read ++ r) n.split ∙ sym (append_assoc l.read n.read (left (g a s)));
            same = λ w h.
                ap (λ (r : List ℕ). and_then (f r) g) (append_assoc l.read n.read w)
                ∙ ap (λ (x : Parsed A). and_then x g)
                (l.same (n.read ++ w) (head_join n.read w (left (g a s)) h ∙ ap head (sym n.split))) ∙ n.same w h;
            means = means_after Y l.read n.read (g a s) n.means;
          }
      go (wrong s) l =
          let (a, more, w) = l.means in
          let (c, v, z) = some (λ c v. Y c ((l.read ++ more) ++ v)) (g a) (m a (l.read ++ more) w) in
          record {
            read = l.read;
            split = l.split;
            same = λ w h. ap (λ (x : Parsed A). and_then x g) (l.same w h);
            means = (c, more ++ v, subst (Y c) (append_assoc l.read more v) z);
          }

  pub reader_give : (h : A → C) → ((a : A) (u : List ℕ) → W a u → Y (h a) u) → Reader C (λ s. and_then (f s) (λ a r. got (h a) r)) Y
  reader_give h m =
      reader_then (λ a r. got (h a) r)
      (λ a u w. reader_got (λ c v. Y c (u ++ v)) (h a) (subst (Y (h a)) (sym (append-nil u)) (m a u w)))
