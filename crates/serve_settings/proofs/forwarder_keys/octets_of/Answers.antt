use Rattle.std.proofs.Common.{sym, ap, ◌∙◌, Some}
use Rattle.std.specs.Net.Reader.{whole_value, read_ipv4}
use Rattle.serve_settings.proofs.Addresses.{address_read, none_read}
use Rattle.serve_settings.proofs.forwarder_keys.octets_of.Goals as goal

pub returns-in-Ok : goal.returns-in-Ok
returns-in-Ok c =
    ap Some c.octets.ensures ∙ sym (address_read _ _ c.in-Ok.ensures)
    ∙ ap (λ l. whole_value (read_ipv4 l)) c.as_bytes.ensures.value

pub returns-in-Err : goal.returns-in-Err
returns-in-Err c = sym (none_read _ c.in-Err.ensures) ∙ ap (λ l. whole_value (read_ipv4 l)) c.as_bytes.ensures.value
