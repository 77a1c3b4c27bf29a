-- 13, and 14 by a station delay or by the halt alone; past them the paths' parts are within what `request_bits` and `data_bits` require.
-- Assumes nothing.
use Rattle.std.proofs.Common.{sym, ◌∙◌}
use Rattle.headroom_sum.proofs.Order.{refused_by_m, refused_by_station, refused_by_halt, past_stations, stations_within}
use Rattle.headroom_sum.proofs.after_link.Goals as goal

pub returns-then-is_outside_m : goal.returns-then-is_outside_m
returns-then-is_outside_m c = refused_by_m c.requires (sym c.is_outside_m.ensures ∙ c.if-is_outside_m.true)

pub returns-then-station_over : goal.returns-then-station_over
returns-then-station_over c =
    let no13 = sym c.is_outside_m.ensures ∙ c.if-is_outside_m.false in
    refused_by_station c.requires no13 (sym c.station_over.ensures ∙ c.if-station_over.true)

pub returns-then-inputs : goal.returns-then-inputs
returns-then-inputs c =
    let no13 = sym c.is_outside_m.ensures ∙ c.if-is_outside_m.false in
    refused_by_halt c.requires no13 (sym c.station_over.ensures ∙ c.if-station_over.false) c.if-inputs.true

pub request_bits-request-requires : goal.request_bits-request-requires
request_bits-request-requires c =
    let no13 = sym c.is_outside_m.ensures ∙ c.if-is_outside_m.false in
    let f = stations_within (past_stations c.requires no13 (sym c.station_over.ensures ∙ c.if-station_over.false)) in
    (f.b_transmit_fits, f.a_receive_fits, c.if-inputs.false, c.requires.link_most)

pub data_bits-data-requires : goal.data_bits-data-requires
data_bits-data-requires c =
    let no13 = sym c.is_outside_m.ensures ∙ c.if-is_outside_m.false in
    let f = stations_within (past_stations c.requires no13 (sym c.station_over.ensures ∙ c.if-station_over.false)) in
    (f.a_transmit_fits, f.b_receive_fits, c.requires.link_most)
