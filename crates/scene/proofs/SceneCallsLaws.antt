-- Demand 3 holds of every list of calls with sightings among them.
-- Assumes nothing.
use Rattle.std.specs.Prelude.{true, List, [], ◌∷◌, ◌≡◌, refl, ℕ, Option, Some, None}
use Rattle.std.proofs.Common.{sym, ◌∙◌}
use Rattle.std.proofs.Math.Path.{ap}
use Rattle.kit.specs.Answer.{Answer, gives, refused}
use Rattle.kit.specs.Pick.{pick_true}
use Rattle.car.specs.declared.Car.{Car}
use Rattle.car.specs.Car.{fresh_car, settings_of, Permitted}
use Rattle.car.specs.Good.{good_of}
use Rattle.car.proofs.GoodLaws.{good_test}
use Rattle.sighting.specs.declared.Sighting.{Sighting}
use Rattle.sighting.specs.Sighting.{seen_word}
use Rattle.trainer.specs.Calls.{outcome, car_of, ends}
use Rattle.trainer.proofs.Demand3Laws.{ends_append, demand_3}
use Rattle.scene.specs.See.{sighted_of, see_of}
use Rattle.scene.proofs.SeeLaws.{see_word, see_none, see_refused, kept_car}
use Rattle.scene.specs.SceneCalls.{SceneCall, call, see, heard_sight, heard, heard_all, car_after, scene_ends, Seeing}

-- ---- one call, then lists
see_ends : (c : Car) (s : Sighting) (a : Answer (Option ℕ)) → seen_word s ≡ a → (see_of c s).car ≡ ends c (heard_sight a)
unfolding heard_sight ends outcome car_of
see_ends c s (gives (Some w)) h = rw (see_word c s w h)
see_ends c s (gives None) h = rw (see_none c s h) (kept_car c _ _)
see_ends c s (refused n) h = rw (see_refused c s n h) (kept_car c _ _)

call_ends : (c : Car) (x : SceneCall) → car_after c x ≡ ends c (heard x)
unfolding car_after heard ends
call_ends c (call k) = refl
call_ends c (see s) = see_ends c s (seen_word s) refl

scene_ends_lem : (c : Car) (xs : List SceneCall) → scene_ends c xs ≡ ends c (heard_all xs)
unfolding scene_ends heard_all ends
scene_ends_lem c [] = refl
scene_ends_lem c (x ∷ xs) =
    scene_ends_lem (car_after c x) xs ∙ ap (λ (d : Car). ends d (heard_all xs)) (call_ends c x) ∙ sym (ends_append c (heard x) (heard_all xs))

-- ---- from a fresh car
module _ (mode signs towing : ℕ) (permitted : Permitted mode signs towing) where
  abbrev first : Car
  first = fresh_car (settings_of mode signs towing)

  stays_good : (ys : List SceneCall) → good_of (scene_ends first ys) ≡ true
  stays_good ys = rw (scene_ends_lem first ys) (good_test _ (demand_3 mode signs towing permitted (heard_all ys)).standing)

  sees : (ys : List SceneCall) (s : Sighting) (a : Answer (Option ℕ)) → seen_word s ≡ a → see_of (scene_ends first ys) s ≡ sighted_of (scene_ends first ys) a
  unfolding see_of
  sees ys s a h = pick_true _ _ _ (stays_good ys) ∙ ap (sighted_of (scene_ends first ys)) h

  pub seeing : (xs : List SceneCall) → Seeing first xs
  unfolding sighted_of
  seeing xs = record {
    car = λ ys zs _. scene_ends_lem first ys;
    event = λ ys s zs w _ h. sees ys s _ h;
    fault = λ ys s zs _ h. sees ys s _ h;
    refusal = λ ys s zs n _ h. sees ys s _ h;
    demand = demand_3 mode signs towing permitted (heard_all xs);
  }
