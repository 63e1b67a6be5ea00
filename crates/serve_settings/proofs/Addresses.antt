-- What is read of a text as an IPv4 address.
use Rattle.std.proofs.Common.{◌≡◌, ℕ, List, [], ◌∷◌, Option, Some, None, refl, sym, ap, ◌∙◌, subst, append-nil, lit≤, cond, length, arith, ne_eqb}
use Rattle.std.specs.declared.net.ipv4_addr.Ipv4Addr.{Ipv4Addr}
use Rattle.std.specs.Net.Addr.{ipv4_octets}
use Rattle.std.specs.Net.Grammar.{IsIpv4Text, IsDotted}
use Rattle.std.specs.Net.Reader.{whole_value, read_ipv4}
use Rattle.std.proofs.NetLemmas.Ipv4.{read_ipv4_sound, read_ipv4_complete}

-- the text of an address is read whole
pub address_read : (text : List ℕ) (a : Ipv4Addr) → IsIpv4Text text a → whole_value (read_ipv4 text) ≡ Some (ipv4_octets a)
address_read text a is =
    ap (λ l. whole_value (read_ipv4 l)) (sym (append-nil text))
    ∙ ap whole_value (read_ipv4_complete text (ipv4_octets a) [] is (lit≤ tt))

-- and of no other text is one read
pub none_read : (text : List ℕ) → ((a : Ipv4Addr) → ¬ (IsIpv4Text text a)) → whole_value (read_ipv4 text) ≡ None
none_read text none = go (read_ipv4 text) refl
  where
    go : (r : Option (List ℕ × List ℕ)) → read_ipv4 text ≡ r → whole_value r ≡ None
    go None e = refl
    go (Some (octets, [])) e =
        let found = read_ipv4_sound text octets [] e in
        let whole : text ≡ found.0 = found.1 ∙ append-nil found.0 in
        absurd (none (record { octets = octets }) (subst (λ l. IsDotted l octets) (sym whole) found.2))
    go (Some (octets, c ∷ rest)) e = ap (λ b. cond b (Some octets) None) (ne_eqb (length (c ∷ rest)) 0 (λ e. omega arith))
