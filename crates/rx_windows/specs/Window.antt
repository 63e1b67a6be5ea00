use Rattle.std.specs.Prelude.{ℕ, List, codes}
use Rattle.rx_windows.specs.declared.candidate.Window.{Window}
use Rattle.rx_windows.specs.declared.candidate.Window.TheVariants.{Rx1, Rx2}

-- the window as it is written
abbrev pub window_text : Window → List ℕ
window_text Rx1 = codes "RX1"
window_text Rx2 = codes "RX2"
