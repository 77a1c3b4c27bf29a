-- What the step's contract cites. What a reader has to believe is Memory (how arrays hold a state) and the two last definitions of
-- Answers, by which the public step is promised; the rest of Answers only stands between the functions of the step.
pub mod Answers
pub mod Memory
