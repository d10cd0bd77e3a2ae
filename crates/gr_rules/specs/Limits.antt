-- The limits of a run.
use Rattle.std.specs.Prelude.{ℕ, ◌-◌, ◌^◌}

-- how many frames a goroutine may have
abbrev pub most_frames : ℕ
most_frames = 1000

-- how many places a channel may have
abbrev pub most_places : ℕ
most_places = 1000000

-- how many counts a goroutine's name may have
abbrev pub most_counts : ℕ
most_counts = 32

-- how many goroutines a goroutine may start, and how many channels it may make
abbrev pub greatest_count : ℕ
greatest_count = 2 ^ 32 - 1

-- how many steps a log may have
abbrev pub most_steps : ℕ
most_steps = 1000000
