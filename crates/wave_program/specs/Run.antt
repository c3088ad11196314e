-- The exit statuses.
--     IsServing s     those of a run over lines
--     IsWhole s       those of one whose turns were all whole
--     IsStatus s      all that there are
use Rattle.std.specs.Prelude.{ℕ, ◌≡◌, ◌⊎◌}

-- done; the source failed; the sink failed; the folder or a file failed; out of memory; the byte limit
abbrev pub IsServing : ℕ → Type 0
IsServing s = (s ≡ 0) ⊎ ((s ≡ 3) ⊎ ((s ≡ 4) ⊎ ((s ≡ 5) ⊎ ((s ≡ 8) ⊎ (s ≡ 10)))))

abbrev pub IsWhole : ℕ → Type 0
IsWhole s = (s ≡ 0) ⊎ ((s ≡ 3) ⊎ ((s ≡ 4) ⊎ (s ≡ 10)))

-- these; other words; a file is damaged; the net failed; a session could not be started; the server closed the link; a shard has no turn
-- left
abbrev pub IsStatus : ℕ → Type 0
IsStatus s = IsServing s ⊎ ((s ≡ 2) ⊎ ((s ≡ 6) ⊎ ((s ≡ 7) ⊎ ((s ≡ 9) ⊎ ((s ≡ 11) ⊎ (s ≡ 12))))))
