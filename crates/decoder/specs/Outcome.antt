-- What the decoder leaves of a block, by the codewords that agree with its known symbols. Internal: no public contract cites it.
-- Assumes nothing.
use Rattle.std.specs.Prelude.{◌≡◌, ◌⊎◌, ◌≢◌, Bool, true, false, cond, List, ℕ, zero, suc, ◌*◌, ◌<◌, length, get_or}
use Rattle.algebra.specs.Lists.{tab, count}
use Rattle.algebra.specs.Codeword.{Checks, byte_at}
use Rattle.algebra.specs.Agreeing.{Verdict, whole, ambiguous, inconsistent, agreeing, verdict_of, determined, filled_symbols}
use Rattle.algebra.specs.Unique.{Some, Common, Agrees}
use Rattle.peeling.specs.States.{is_known}

-- x agrees with the known symbols of the block
abbrev pub AgreesWith : Checks → ℕ → List ℕ → List ℕ → List ℕ → Type 0
AgreesWith c w block states = Agrees c w (is_known states) block

-- known position i stays as it is
pub record Stays (w : ℕ) (block symbols' states' : List ℕ) (i : ℕ) : Type 0 where
  pub state : get_or states' i 0 ≡ 1
  pub bytes : (b : ℕ) → b < w → byte_at w symbols' b i ≡ byte_at w block b i

-- position i is filled with x's symbol, which all that agree have
pub record Fills (c : Checks) (w : ℕ) (block states x symbols' states' : List ℕ) (i : ℕ) : Type 0 where
  pub state : get_or states' i 0 ≡ 2
  pub bytes : (b : ℕ) → b < w → byte_at w symbols' b i ≡ byte_at w x b i
  pub common : Common w (AgreesWith c w block states) i

-- position i is left
pub record Leaves (w : ℕ) (symbols' states' : List ℕ) (i : ℕ) : Type 0 where
  pub state : get_or states' i 0 ≡ 0
  pub bytes : (b : ℕ) → b < w → byte_at w symbols' b i ≡ 0

-- some word that agrees has another symbol at position i than x
abbrev pub Differs : Checks → ℕ → List ℕ → List ℕ → List ℕ → ℕ → Type 0
Differs c w block states x i = (y : List ℕ) × (AgreesWith c w block states y × ((b : ℕ) × ((b < w) × (byte_at w y b i ≢ byte_at w x b i))))

-- a block for which no codeword agrees: everything missing is left
pub record Refuted (c : Checks) (w : ℕ) (block states symbols' states' : List ℕ) : Type 0 where
  pub symbols-size : length symbols' ≡ c.n * w
  pub states-size : length states' ≡ c.n
  pub none : ¬ Some (AgreesWith c w block states)
  pub known : (i : ℕ) → i < c.n → is_known states i ≡ true → Stays w block symbols' states' i
  pub missing : (i : ℕ) → i < c.n → is_known states i ≡ false → Leaves w symbols' states' i

-- a block with which x agrees: what is missing is filled where all that agree have the same symbol, and else left
pub record Confirmed (c : Checks) (w : ℕ) (block states x symbols' states' : List ℕ) : Type 0 where
  pub symbols-size : length symbols' ≡ c.n * w
  pub states-size : length states' ≡ c.n
  pub agrees : AgreesWith c w block states x
  pub known : (i : ℕ) → i < c.n → is_known states i ≡ true → Stays w block symbols' states' i
  pub missing : (i : ℕ) → i < c.n → is_known states i ≡ false
      → Fills c w block states x symbols' states' i ⊎ (Leaves w symbols' states' i × Differs c w block states x i)

abbrev pub Outcome : Checks → ℕ → List ℕ → List ℕ → List ℕ → List ℕ → Bool → Type 0
Outcome c w block states symbols' states' false = Refuted c w block states symbols' states'
Outcome c w block states symbols' states' true = (x : List ℕ) × Confirmed c w block states x symbols' states'

-- the verdict, by whether some codeword agrees and by how many positions are left
abbrev pub verdict_by : Bool → ℕ → Verdict
verdict_by false left = inconsistent
verdict_by true zero = whole
verdict_by true (suc left) = ambiguous

-- the states afterwards: 1 known, 2 determined, 0 neither
unfoldable pub states_after : Checks → ℕ → List ℕ → List ℕ → List ℕ
states_after c w block states = tab c.n (λ i. cond (is_known states i) 1 (cond (determined w (agreeing c w (is_known states) block) i) 2 0))

-- the symbols and the states by the codewords that agree, and `ok` says whether there is one
pub record Decoded (c : Checks) (w : ℕ) (block states symbols' states' : List ℕ) (ok : Bool) : Type 0 where
  pub symbols_are : symbols' ≡ filled_symbols c w (is_known states) block
  pub states_are : states' ≡ states_after c w block states
  pub verdict_is : verdict_by ok (count 0 states') ≡ verdict_of (agreeing c w (is_known states) block)
