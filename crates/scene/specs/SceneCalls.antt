-- Lists of calls with sightings among them, as demand 3's calls see them: a sighting with an event is the call of its word, one with none, for a fault or a
-- refusal, is no call.
-- Assumes nothing.
use Rattle.std.specs.Prelude.{true, false, List, [], ◌∷◌, ◌++◌, ◌≡◌, ℕ, Option, Some, None}
use Rattle.kit.specs.Answer.{Answer, gives, refused}
use Rattle.car.specs.declared.Car.{Car}
use Rattle.car.specs.Drive.{step_of}
use Rattle.sighting.specs.declared.Sighting.{Sighting}
use Rattle.sighting.specs.Sighting.{seen_word}
use Rattle.trainer.specs.Calls.{Call, word, outcome, car_of, ends}
use Rattle.trainer.specs.Demand3.{Demand3}
use Rattle.scene.specs.See.{told_of, see_of}

pub data SceneCall : Type 0 where
  call : Call → SceneCall
  see : Sighting → SceneCall

unfoldable pub heard_sight : Answer (Option ℕ) → List Call
heard_sight (gives (Some w)) = word w ∷ []
heard_sight (gives None) = []
heard_sight (refused n) = []

unfoldable pub heard : SceneCall → List Call
heard (call k) = k ∷ []
heard (see s) = heard_sight (seen_word s)

unfoldable pub heard_all : List SceneCall → List Call
heard_all [] = []
heard_all (x ∷ xs) = heard x ++ heard_all xs

-- the car that a call leaves, and a list of them
unfoldable pub car_after : Car → SceneCall → Car
car_after c (call k) = car_of (outcome c k)
car_after c (see s) = (see_of c s).car

unfoldable pub scene_ends : Car → List SceneCall → Car
scene_ends c [] = c
scene_ends c (x ∷ xs) = scene_ends (car_after c x) xs

pub record Seeing (c : Car) (xs : List SceneCall) : Type 0 where
  -- after each call the car is that which demand 3's calls give
  pub car : (ys zs : List SceneCall) → xs ≡ ys ++ zs → scene_ends c ys ≡ ends c (heard_all ys)
  -- a sighting with an event gives what the checks and the rules give of its word
  pub event : (ys : List SceneCall) (s : Sighting) (zs : List SceneCall) (w : ℕ) → xs ≡ ys ++ see s ∷ zs → seen_word s ≡ gives (Some w)
      → see_of (scene_ends c ys) s ≡ told_of (step_of (scene_ends c ys) w)
  -- a fault changes nothing and says so
  pub fault : (ys : List SceneCall) (s : Sighting) (zs : List SceneCall) → xs ≡ ys ++ see s ∷ zs → seen_word s ≡ gives None
      → see_of (scene_ends c ys) s ≡ record { car = scene_ends c ys; refusal = 0; fault = true }
  -- a sighting that is turned away changes nothing, and its number is 22 or 23: 18 is never given
  pub refusal : (ys : List SceneCall) (s : Sighting) (zs : List SceneCall) (n : ℕ) → xs ≡ ys ++ see s ∷ zs → seen_word s ≡ refused n
      → see_of (scene_ends c ys) s ≡ record { car = scene_ends c ys; refusal = n; fault = false }
  -- and demand 3 holds of these calls
  pub demand : Demand3 c (heard_all xs)
