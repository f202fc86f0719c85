-- "For every list of words from a fresh car, D with the key on is then whatever the last lever, sign or hold rule left, or 0 with none since the
-- key": document 02, §4.
-- Positions in a list are said by splits: `ws ≡ us ++ w ∷ vs` says that w comes after us in ws.
-- Assumes nothing.
use Rattle.std.specs.Prelude.{Bool, true, false, ◌&&◌, not, ◌≡◌, List, [], ◌∷◌, ◌++◌, ℕ, ◌+◌, ◌-◌, eqb, leb}
use Rattle.event.specs.declared.Input.{Input}
use Rattle.event.specs.declared.Input.TheVariants.{Key, UpDown, ForeBack, Brake, Gas, Button, Gap, Sign, Radar}
use Rattle.event.specs.declared.Event.{Event}
use Rattle.event.specs.declared.Event.TheVariants as event
use Rattle.event.specs.Words.{input_kind}
use Rattle.car.specs.declared.Car.{Car}
use Rattle.car.specs.Drive.{accepted_as}
use Rattle.car.specs.Lesson.{driven}
use Rattle.car.specs.Rules.{engages, sign_acts, hold_applies}

-- ---- the words that renew D
-- "lever": the up-down lever moved out of neutral; forward that engages at D = 0, and none at a D above 0, which it takes as it is kept.
-- "sign": one of 200 or more that acts
unfoldable pub input_renews : Car → Input → Bool
input_renews c (Key position ready) = false
input_renews c (UpDown x) = not (eqb x 0)
input_renews c (ForeBack y) = eqb y 1 && engages c && eqb c.cruise.desired 0
input_renews c (Brake x) = false
input_renews c (Gas x) = false
input_renews c (Button limit) = false
input_renews c (Gap tenths) = false
input_renews c (Sign s) = sign_acts c && leb 200 s
input_renews c (Radar range speed) = false

-- "hold rule": a tick with cruise on, L out and h of 2 or more
unfoldable pub renews : Car → Event → Bool
renews c (event.Input i) = input_renews c i
renews c (event.Tick ready) = c.cruise.on && hold_applies c (c.now + 1 - c.levers.time)

unfoldable pub is_key : Event → Bool
is_key (event.Input i) = eqb (input_kind i) 1
is_key (event.Tick ready) = false

-- an accepted word that renews D, and one that turns the key
abbrev pub renewing : Car → ℕ → Bool
renewing c w = accepted_as (renews c) c w

abbrev pub accepted_key : Car → ℕ → Bool
accepted_key c w = accepted_as is_key c w

-- none of ws, driven from c, is such a word
abbrev pub Never : (Car → ℕ → Bool) → Car → List ℕ → Type 0
Never f c ws = (us : List ℕ) (w : ℕ) (vs : List ℕ) → ws ≡ us ++ w ∷ vs → f (driven c us) w ≡ false

-- ---- the claim, of the words ws driven from c
-- the last word that renews D or turns the key: it renews D, or it turns the key, or there is none
pub data LastWord (c : Car) (ws : List ℕ) : Type 0 where
  renewed : (us : List ℕ) (w : ℕ) (vs : List ℕ) → ws ≡ us ++ w ∷ vs → renewing (driven c us) w ≡ true
      → Never renewing (driven c (us ++ w ∷ [])) vs → Never accepted_key (driven c (us ++ w ∷ [])) vs → LastWord c ws
  turned : (us : List ℕ) (w : ℕ) (vs : List ℕ) → ws ≡ us ++ w ∷ vs → accepted_key (driven c us) w ≡ true
      → Never renewing (driven c (us ++ w ∷ [])) vs → Never accepted_key (driven c (us ++ w ∷ [])) vs → LastWord c ws
  neither : Never renewing c ws → Never accepted_key c ws → LastWord c ws

pub record KeptDesired (c : Car) (ws : List ℕ) : Type 0 where
  -- "whatever the last lever, sign or hold rule left": w renews D, and no later word does or turns the key
  pub left : (us : List ℕ) (w : ℕ) (vs : List ℕ) → ws ≡ us ++ w ∷ vs → renewing (driven c us) w ≡ true
      → Never renewing (driven c (us ++ w ∷ [])) vs → Never accepted_key (driven c (us ++ w ∷ [])) vs
      → (driven c ws).cruise.desired ≡ (driven c (us ++ w ∷ [])).cruise.desired
  -- "or 0 with none since the key": w turns the key; or since the start
  pub cleared : (us : List ℕ) (w : ℕ) (vs : List ℕ) → ws ≡ us ++ w ∷ vs → accepted_key (driven c us) w ≡ true
      → Never renewing (driven c (us ++ w ∷ [])) vs → (driven c ws).cruise.desired ≡ 0
  pub never : Never renewing c ws → (driven c ws).cruise.desired ≡ 0
  -- one of the three holds of every list
  pub last : LastWord c ws
  -- with the key not on
  pub off : ((driven c ws).key ≡ 2 → ⊥) → (driven c ws).cruise.desired ≡ 0
