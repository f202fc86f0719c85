-- A car as its fields in document 01's order: "mode signs towing key L M b g H S C P v Z D E T B R W Y G now Q".
-- Assumes nothing.
use Rattle.std.specs.Prelude.{List, [], ◌∷◌, ℕ, eqb, get_or}
use Rattle.event.specs.Words.{bit_of}
use Rattle.car.specs.declared.Car.{Car}

abbrev pub fields_of : Car → List ℕ
fields_of c =
    c.settings.mode ∷ bit_of c.settings.signs ∷ bit_of c.settings.towing ∷ c.key ∷ c.levers.updown ∷ c.levers.foreback ∷ c.pedals.brake ∷ c.pedals.gas
    ∷ bit_of c.limiter.button ∷ bit_of c.limiter.on ∷ bit_of c.cruise.on ∷ bit_of c.radar.ready
    ∷ c.speed ∷ c.limiter.limit ∷ c.cruise.desired ∷ c.cruise.manual ∷ c.levers.time ∷ c.levers.base
    ∷ c.radar.range ∷ c.radar.lead ∷ c.radar.earlier ∷ c.gap ∷ c.now ∷ c.radar.tested ∷ []

-- a flag is set where its word is 1
abbrev pub car_of : List ℕ → Car
car_of fs =
    record {
      settings = record { mode = get_or fs 0 0; signs = eqb (get_or fs 1 0) 1; towing = eqb (get_or fs 2 0) 1 };
      key = get_or fs 3 0;
      levers = record { updown = get_or fs 4 0; foreback = get_or fs 5 0; time = get_or fs 16 0; base = get_or fs 17 0 };
      pedals = record { brake = get_or fs 6 0; gas = get_or fs 7 0 };
      limiter = record { button = eqb (get_or fs 8 0) 1; on = eqb (get_or fs 9 0) 1; limit = get_or fs 13 0 };
      cruise = record { on = eqb (get_or fs 10 0) 1; desired = get_or fs 14 0; manual = get_or fs 15 0 };
      radar = record { ready = eqb (get_or fs 11 0) 1; range = get_or fs 18 0; lead = get_or fs 19 0; earlier = get_or fs 20 0; tested = get_or fs 23 0 };
      gap = get_or fs 21 0;
      speed = get_or fs 12 0;
      now = get_or fs 22 0;
    }
