-- Serials over the end of the circle, and half a circle apart.
use Rattle.std.proofs.Common.{◌≡◌, true, false, refl}
use Rattle.dns_serial.specs.Serial.{advance, greater, distance, next_serial}

over_the_end : advance 4294967295 1 ≡ 2
over_the_end = refl

greater_over_the_end : greater 1 4294967295 ≡ true
greater_over_the_end = refl

half_a_circle_ahead : greater 2147483648 0 ≡ false
half_a_circle_ahead = refl

half_a_circle_behind : greater 0 2147483648 ≡ false
half_a_circle_behind = refl

half_a_circle_apart : distance 0 2147483648 ≡ 2147483648
half_a_circle_apart = refl

after_the_last : next_serial 4294967295 ≡ 0
after_the_last = refl
