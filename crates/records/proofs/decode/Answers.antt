-- The octets' refusal is handed on, or what they ask is read. Assumes nothing.
use Rattle.std.proofs.Common.{◌≡◌, ℕ, ◌+◌, List, length, ap, ◌∙◌}
use Rattle.octets.specs.Numbers.{octet_at}
use Rattle.refusals.proofs.Refused.{refused_on, passed_on}
use Rattle.records.specs.Records.{body_length, body_of, record_length, sized_refusal, octets_refusal, decoded}
use Rattle.records.proofs.Decoding.{number_by}
use Rattle.records.proofs.decode.Goals as goal

-- the refusals by the kind that was read are those of the octets
refusal_is : (octets : List ℕ) {kind body : ℕ} → kind ≡ octet_at octets 0 → body ≡ body_length kind →
    sized_refusal kind (length octets) (1 + body) ≡ octets_refusal octets
refusal_is octets {kind} is_kind is_body =
    ap (λ (n : ℕ). sized_refusal kind (length octets) (1 + n)) is_body ∙
    ap (λ (k : ℕ). sized_refusal k (length octets) (record_length k)) is_kind

pub returns-in_err-is_whole-clause-answer : goal.returns-in_err-is_whole-clause-answer
unfolding decoded sized_refusal
returns-in_err-is_whole-clause-answer c =
    let octets = c.args.octets.now in
    refused_on (refusal_is octets c.octet_at-kind.ensures c.body_length.ensures.0) (body_of (octet_at octets 0) octets)
    c.from_residual.ensures.1 c.in_err-is_whole.ensures

pub returns-in_err-is_whole-clause-number : goal.returns-in_err-is_whole-clause-number
returns-in_err-is_whole-clause-number c = number_by c.args.octets.now (returns-in_err-is_whole-clause-answer c)

pub returns-clause-answer : goal.returns-clause-answer
unfolding decoded sized_refusal
returns-clause-answer c =
    let octets = c.args.octets.now in
    passed_on (refusal_is octets c.octet_at-kind.ensures c.body_length.ensures.0) c.in_ok-is_whole.ensures
    (c.body.ensures ∙ ap (λ (k : ℕ). body_of k octets) c.octet_at-kind.ensures)

pub returns-clause-number : goal.returns-clause-number
returns-clause-number c = number_by c.args.octets.now (returns-clause-answer c)
